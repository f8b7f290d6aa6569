-- Each way to a return is a case of the fillings of the clocks from k on. Assumes nothing.
use Rattle.std.proofs.Common.{◌≡◌, true, ◌<◌, get_or, drop, ℕ, ◌+◌, List, Bool, length, arith, rules, refl}
use Rattle.records.specs.declared.instant.Tick.{Tick}
use Rattle.work.specs.View.{seen_of}
use Rattle.work.specs.Relevant.{relevant_only, fillings_left}
use Rattle.work.specs.Rules.{allowed}
use Rattle.work.proofs.Forbidden.{forbidden-none}
use Rattle.lines.specs.Plan.{plan_lines, rules_from}
use Rattle.step.specs.declared.fill.Extent.{Extent}
use Rattle.step.specs.Fill.{Listing}
use Rattle.step.proofs.fill.Listed.{left-idle, left-ticks, left-unseen, left-irrelevant, room-same, room-first, room-second, listed-none, listed_same, listed-both}
use Rattle.step.proofs.fill.+fill.Goals as goal

-- where all that is left is left from the next clock on, there is room for it
next-listing : {list : List Bool} {x : Extent} {flags : List Bool} {seen : List Tick} {ticks more : List Bool} {k n : ℕ} → Listing list x flags k seen ticks n → k < x.clocks
    → fillings_left flags seen x.clocks k ticks ≡ fillings_left flags seen x.clocks (k + 1) more → Listing list x flags (k + 1) seen more n
next-listing {n = n} p h e = record { size = p.size; few-clocks = p.few-clocks; few-rules = p.few-rules; clock = omega arith; room = room-same n e p.room }

pub fill-requires : goal.fill-requires
fill-requires t c =
    let h : c.args.k < c.args.extent.clocks = omega arith in
    let l : length c.args.seen ≡ 8 = search rules in
    (omega arith, next-listing c.requires h (left-idle c.args.flags c.args.seen c.args.extent.clocks c.args.k c.args.ticks h (omega arith) c.in-Idle.is))

pub returns-in-Idle : goal.returns-in-Idle
returns-in-Idle t c =
    let h : c.args.k < c.args.extent.clocks = omega arith in
    let l : length c.args.seen ≡ 8 = search rules in
    listed_same _ (left-idle c.args.flags c.args.seen c.args.extent.clocks c.args.k c.args.ticks h (omega arith) c.in-Idle.is) c.fill.ensures

pub fill-requires-in-Ticks : goal.fill-requires-in-Ticks
fill-requires-in-Ticks t c =
    let h : c.args.k < c.args.extent.clocks = omega arith in
    let l : length c.args.seen ≡ 8 = search rules in
    (omega arith, next-listing c.requires h (left-ticks c.args.flags c.args.seen c.args.extent.clocks c.args.k c.args.ticks h (omega arith) c.with_tick-set.ensures c.in-Ticks.is))

pub returns-in-Ticks : goal.returns-in-Ticks
returns-in-Ticks t c =
    let h : c.args.k < c.args.extent.clocks = omega arith in
    let l : length c.args.seen ≡ 8 = search rules in
    listed_same _ (left-ticks c.args.flags c.args.seen c.args.extent.clocks c.args.k c.args.ticks h (omega arith) c.with_tick-set.ensures c.in-Ticks.is) c.fill-in-Ticks.ensures

pub returns-then-is_forbidden : goal.returns-then-is_forbidden
returns-then-is_forbidden t c =
    let a = c.args in
    let rules = plan_lines a.lines.now rules_from a.extent.rules in
    listed-none (allowed rules) _ a.n a.list.now (forbidden-none a.k a.ticks rules (rw c.from-rules.ensures at c.is_forbidden.ensures) c.if-is_forbidden.true (relevant_only (λ j. get_or a.flags j true) a.k (drop a.k (seen_of a.extent.clocks a.seen)))) c.requires.size

pub fill-requires-then-not-flags-k : goal.fill-requires-then-not-flags-k
fill-requires-then-not-flags-k t c =
    let h : c.args.k < c.args.extent.clocks = omega arith in
    let l : length c.args.seen ≡ 8 = search rules in
    let m : length c.args.flags ≡ 8 = search rules in
    (omega arith, next-listing c.requires h (left-irrelevant c.args.flags c.args.seen c.args.extent.clocks c.args.k c.args.ticks h (omega arith) (omega arith) c.in-Unseen.is c.if-not-flags-k.true))

pub returns-then-not-flags-k : goal.returns-then-not-flags-k
returns-then-not-flags-k t c =
    let h : c.args.k < c.args.extent.clocks = omega arith in
    let l : length c.args.seen ≡ 8 = search rules in
    let m : length c.args.flags ≡ 8 = search rules in
    listed_same _ (left-irrelevant c.args.flags c.args.seen c.args.extent.clocks c.args.k c.args.ticks h (omega arith) (omega arith) c.in-Unseen.is c.if-not-flags-k.true) c.fill-then-not-flags-k.ensures

-- it branches
pub fill-idle-requires : goal.fill-idle-requires
fill-idle-requires t c =
    let h : c.args.k < c.args.extent.clocks = omega arith in
    let l : length c.args.seen ≡ 8 = search rules in
    let m : length c.args.flags ≡ 8 = search rules in
    let p = c.requires in
    let both = left-unseen c.args.flags c.args.seen c.args.extent.clocks c.args.k c.args.ticks h (omega arith) refl (omega arith) c.in-Unseen.is c.if-not-flags-k.false in
    (omega arith, record { size = p.size; few-clocks = p.few-clocks; few-rules = p.few-rules; clock = omega arith; room = room-first c.args.n _ _ both p.room })

pub fill-requires-in-Unseen : goal.fill-requires-in-Unseen
fill-requires-in-Unseen t c =
    let h : c.args.k < c.args.extent.clocks = omega arith in
    let l : length c.args.seen ≡ 8 = search rules in
    let m : length c.args.flags ≡ 8 = search rules in
    let p = c.requires in
    let x = c.fill-idle.ensures in
    let both = left-unseen c.args.flags c.args.seen c.args.extent.clocks c.args.k c.args.ticks h (omega arith) c.with_tick-set-in-Unseen.ensures (omega arith) c.in-Unseen.is c.if-not-flags-k.false in
    (omega arith, record { size = x.size; few-clocks = p.few-clocks; few-rules = p.few-rules; clock = omega arith; room = room-second c.args.n c.fill-idle.result _ _ both p.room x.fewer })

pub returns-else-not-flags-k : goal.returns-else-not-flags-k
returns-else-not-flags-k t c =
    let h : c.args.k < c.args.extent.clocks = omega arith in
    let l : length c.args.seen ≡ 8 = search rules in
    let m : length c.args.flags ≡ 8 = search rules in
    listed-both _ (left-unseen c.args.flags c.args.seen c.args.extent.clocks c.args.k c.args.ticks h (omega arith) c.with_tick-set-in-Unseen.ensures (omega arith) c.in-Unseen.is c.if-not-flags-k.false) c.fill-idle.ensures c.fill-in-Unseen.ensures
