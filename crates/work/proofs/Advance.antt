-- What a filled instant makes of a remainder: the same sets of obligations and countdowns, or more than eight distinct ones in either. Assumes nothing.
use mathlib.Core.Bool.{Bool, true, false, not, cond, ◌&&◌}
use mathlib.Core.List.{List, [], ◌∷◌, ◌++◌}
use mathlib.Core.Option.{Option, none, some}
use mathlib.Core.Path.{◌≡◌, refl, sym, ap, subst}
use Prim.Native.Nat.{ℕ, suc, ◌-◌, ◌≤◌, ◌<◌}
use native.Mathlib.Omega.{arith}
use lib.Dec.{T, T_not, not_T, ltb, ltb→lt, lt→ltb}
use lib.ListN.{length}
use Rattle.records.specs.Sheet.{SheetValue}
use Rattle.tesl.specs.Lists.{any, filter}
use Rattle.tesl.specs.Run.{Filled}
use Rattle.tesl.specs.Fits.{ticks_in, most_tag, Obligation, meets, not_late, Countdown, left_of, left_by}
use Rattle.tesl.specs.Remainder.{Remainder, same_obligation, same_countdown, same_remainder, owes, counts, overfull}
use Rattle.tesl.proofs.Tests.{and_l, and_r, and_i, or_l, or_r, or-e}
use Rattle.theory.specs.Sets.{apart}
use Rattle.theory.specs.Step.{overlap, lines_ok, none_missed, next}
use Rattle.theory.proofs.Lists.{any-flat_map, any-imp}
use Rattle.theory.proofs.Sets.{filter-once, number-most, number_more}
use Rattle.theory.proofs.Adding.{Tidied, Beyond, Adding, room, full, earlier, added-all}
use Rattle.theory.proofs.Respect.{owed-equality, count-equality, owed-equivalence, count-equivalence, same_of}
use Rattle.work.specs.Advanced.{Advanced, fails, over, onto}
use Rattle.work.specs.Questions.{carried_holds}
use Rattle.work.specs.Owed.{Owings, owing, begun_by, left, still_owed, still_counting, together}
use Rattle.work.specs.Work.{carried, with_begun, with_still_owed, advanced}
use Rattle.work.proofs.Counted.{Once}
use Rattle.work.proofs.Padded.{padded, goes_on, afterwards, step-next}

-- ---- a filled instant

-- by whether it goes on: those that f leaves, and those that it begins
data Moves (v : SheetValue) (f : Filled) (r : Remainder) : Bool → Advanced → Type 0 where
  stays : Moves v f r false fails
  nine-owed : Beyond same_obligation 8 r.owed (afterwards v f r).owed → Moves v f r true over
  nine-counting : Beyond same_countdown 8 r.countdowns (afterwards v f r).countdowns → Moves v f r true over
  moves : {w : Owings} → Tidied same_obligation 8 r.owed (afterwards v f r).owed w.owed → Tidied same_countdown 8 r.countdowns (afterwards v f r).countdowns w.countdowns
      → Moves v f r true (onto (carried v f.ticks (owing w r)))

filter-shorter : {A : Type 0} (p : A → Bool) (xs : List A) → length (filter p xs) ≤ length xs
filter-shorter p [] = omega arith
filter-shorter p (x ∷ xs) = by-test (p x) (filter-shorter p xs)
  where
    by-test : (b : Bool) → length (filter p xs) ≤ length xs → length (cond b (x ∷ filter p xs) (filter p xs)) ≤ suc (length xs)
    by-test true h = omega arith
    by-test false h = omega arith

-- those left are as few, and distinct if all are
left-room : (f : Filled) (os : List Obligation) → length os ≤ 8 → length (left f os) ≤ 8
left-room f os h = let le = filter-shorter (λ (o : Obligation). not (meets f o)) os in omega arith

left-once : (f : Filled) (os : List Obligation) → T (apart same_obligation os) → T (apart same_obligation (left f os))
left-once f os a =
    (filter-once same_obligation owed-equivalence (λ (o : Obligation). not (meets f o)) (λ x y e t. subst (λ (o : Obligation). T (not (meets f o))) (owed-equality.equal x y e) t)
    {xs = os} {ys = os} (record { each-once = a; these = λ o. refl })).each-once

module _ (later : List Filled) where
  count_room : (cs : List Countdown) → length (left_by later cs) ≤ length cs
  count_room [] = omega arith
  count_room (c ∷ cs) = by-test (ltb (ticks_in c.on later) c.wanted) (count_room cs)
    where
      by-test : (b : Bool) → length (left_by later cs) ≤ length cs
          → length (cond b (record { clock = c.clock; on = c.on; wanted = c.wanted - ticks_in c.on later } ∷ []) [] ++ left_by later cs) ≤ suc (length cs)
      by-test true h = omega arith
      by-test false h = omega arith

  -- what is left of two is the same only if they are
  left-apart : (c d x : Countdown) → T (ltb (ticks_in c.on later) c.wanted) → x ≡ record { clock = c.clock; on = c.on; wanted = c.wanted - ticks_in c.on later }
      → T (any (same_countdown x) (left_of later d)) → T (same_countdown c d)
  left-apart c d x l e t = by-test (ltb (ticks_in d.on later) d.wanted) (ltb→lt (ticks_in d.on later) d.wanted) (subst (λ (y : Countdown). T (any (same_countdown y) (left_of later d))) e t)
    where
      rest : Countdown → Countdown
      rest y = record { clock = y.clock; on = y.on; wanted = y.wanted - ticks_in y.on later }

      by-test : (b : Bool) → (T b → ticks_in d.on later < d.wanted) → T (any (same_countdown (rest c)) (cond b (rest d ∷ []) [])) → T (same_countdown c d)
      by-test true k u =
          let q = count-equality.equal (rest c) (rest d) (or-e (same_countdown (rest c) (rest d)) false u (λ w. w) absurd) in
          let clock : c.clock ≡ d.clock = ap (λ (y : Countdown). y.clock) q in
          let on : c.on ≡ d.on = ap (λ (y : Countdown). y.on) q in
          let less : c.wanted - ticks_in c.on later ≡ d.wanted - ticks_in d.on later = ap (λ (y : Countdown). y.wanted) q in
          let ticks : ticks_in c.on later ≡ ticks_in d.on later = ap (λ (K : ℕ). ticks_in K later) on in
          let lc = ltb→lt (ticks_in c.on later) c.wanted l in
          let ld = k tt in
          let wanted : c.wanted ≡ d.wanted = omega arith in
          subst (λ (y : Countdown). T (same_countdown c y)) (λ i. record { clock = clock i; on = on i; wanted = wanted i }) (count-equality.own c)
      by-test false k u = absurd u

  count-once : (cs : List Countdown) → T (apart same_countdown cs) → T (apart same_countdown (left_by later cs))
  count-once [] a = tt
  count-once (c ∷ cs) a = by-test (count-once cs (and_r (not (any (same_countdown c) cs)) (apart same_countdown cs) a)) (ltb (ticks_in c.on later) c.wanted) (λ t. t)
    where
      rest : Countdown
      rest = record { clock = c.clock; on = c.on; wanted = c.wanted - ticks_in c.on later }

      by-test : T (apart same_countdown (left_by later cs)) → (b : Bool) → (T b → T (ltb (ticks_in c.on later) c.wanted)) → T (apart same_countdown (cond b (rest ∷ []) [] ++ left_by later cs))
      by-test others true l = and_i (not (any (same_countdown rest) (left_by later cs))) (apart same_countdown (left_by later cs))
          (not_T (any (same_countdown rest) (left_by later cs)) (λ t. T_not (any (same_countdown c) cs) (and_l (not (any (same_countdown c) cs)) (apart same_countdown cs) a)
          (any-imp (λ (d : Countdown). any (same_countdown rest) (left_of later d)) (same_countdown c) cs (λ d u. left-apart c d rest (l tt) refl u) (subst T (any-flat_map (same_countdown rest) (left_of later) cs) t))))
          others
      by-test others false l = others

with-begun : {v : SheetValue} {f : Filled} {r : Remainder} {q : Option (List Obligation)} {p : Option (List Countdown)}
    → Adding same_obligation 8 r.owed (afterwards v f r).owed q → Adding same_countdown 8 r.countdowns (afterwards v f r).countdowns p
    → Moves v f r true (with_begun v f.ticks r (together q p))
with-begun (room h) (room k) = moves h k
with-begun (room h) (full k) = nine-counting k
with-begun (full h) k = nine-owed h

advance-moves : (v : SheetValue) (f : Filled) (r : Remainder) → Moves v f r (goes_on v f r) (advanced v f (begun_by most_tag v.lines f) r)
unfolding advanced still_owed still_counting
advance-moves v f r =
    by_tests (not (overlap f.ticks r.stopped) && lines_ok (carried_holds f.ticks) v.lines r.leads) (not_late (some f.tags) (left f r.owed)) (none_missed f r.countdowns)
  where
    begun : Owings
    begun = begun_by most_tag v.lines f

    by_tests : (a b c : Bool)
        → Moves v f r (a && (b && c)) (cond a (with_still_owed v f.ticks begun r (together (cond b (some (left f r.owed)) none) (cond c (some (left_by (f ∷ []) r.countdowns)) none))) fails)
    by_tests false b c = stays
    by_tests true false c = stays
    by_tests true true false = stays
    by_tests true true true = with-begun
        (earlier same_obligation 8 (λ o. refl) (left-room f r.owed) (left-once f r.owed) (added-all same_obligation owed-equivalence 8 begun.owed (left f r.owed)))
        (earlier same_countdown 8 (λ c. refl) (λ k. let le = count_room (f ∷ []) r.countdowns in omega arith) (count-once (f ∷ []) r.countdowns)
        (added-all same_countdown count-equivalence 8 begun.countdowns (left_by (f ∷ []) r.countdowns)))

-- ---- a filled instant of the sheet's clocks, by what comes next

pub data Steps (v : SheetValue) (f : Filled) (r : Remainder) : Bool → Advanced → Type 0 where
  broken : Steps v f r false fails
  too_many-law : (Once r → T (overfull (next v f r))) → Steps v f r true over
  goes : {x : Remainder} → T (same_remainder x (next v f r)) → T (not (overfull x)) → (Once r → Once x) → Steps v f r true (onto x)

eight-fit : (r : Remainder) → length r.owed ≤ 8 → length r.countdowns ≤ 8 → T (not (overfull r))
unfolding owes counts overfull
eight-fit r h k = not_T (overfull r) (λ t. or-e (ltb 8 (owes r)) (ltb 8 (counts r)) t
    (λ u. let l = ltb→lt 8 (owes r) u in absurd (omega (arith, number-most same_obligation owed-equivalence r.owed)))
    (λ u. let l = ltb→lt 8 (counts r) u in absurd (omega (arith, number-most same_countdown count-equivalence r.countdowns))))

module _ (v : SheetValue) (f : Filled) (r : Remainder) (clocks : length r.stopped ≡ v.clocks) (few : length r.owed ≤ 8) (few-counting : length r.countdowns ≤ 8) where
  owing-next : Owings → Remainder
  owing-next w = carried v (padded f).ticks (owing w r)

  these : Owings
  these = afterwards v (padded f) r

  -- more than eight of either
  nine : (Once r → T (overfull (owing-next these))) → Steps v f r true over
  unfolding owing-next these
  nine h = too_many-law (λ a. subst (λ (q : Remainder). T (overfull q)) (sym (step-next v f r clocks)) (h a))

  moves-steps : {ok : Bool} {a : Advanced} → Moves v (padded f) r ok a → Steps v f r ok a
  unfolding owing-next these owes counts overfull
  moves-steps stays = broken
  moves-steps (nine-owed h) = nine (λ a. or_l (ltb 8 (owes (owing-next these))) (ltb 8 (counts (owing-next these)))
      (lt→ltb 8 (owes (owing-next these)) (number_more same_obligation owed-equivalence 8 h.among these.owed (h.once a.0) h.covered h.many)))
  moves-steps (nine-counting h) = nine (λ a. or_r (ltb 8 (owes (owing-next these))) (ltb 8 (counts (owing-next these)))
      (lt→ltb 8 (counts (owing-next these)) (number_more same_countdown count-equivalence 8 h.among these.countdowns (h.once a.1) h.covered h.many)))
  moves-steps (moves {w = w} h k) = goes
      (subst (λ (q : Remainder). T (same_remainder (owing-next w) q)) (sym (step-next v f r clocks))
      (same_of (owing-next w) (owing-next these) (record { leads = refl; stopped = refl; owed = h.set; countdowns = k.set })))
      (eight-fit (owing-next w) (h.room few) (k.room few-counting)) (λ a. (h.once a.0, k.once a.1))

  pub steps : {ok : Bool} → ok ≡ goes_on v (padded f) r → Steps v f r ok (advanced v (padded f) (begun_by most_tag v.lines (padded f)) r)
  steps e = subst (λ (ok : Bool). Steps v f r ok (advanced v (padded f) (begun_by most_tag v.lines (padded f)) r)) (sym e) (moves-steps (advance-moves v (padded f) r))
