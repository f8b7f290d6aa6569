-- Document 01, 'When a filled run fits', clause by clause in its order; and document 02's delay counted in ticks and end of the scale.
use Rattle.std.specs.Prelude.{Bool, true, false, not, cond, ◌&&◌, ◌||◌, List, [], ◌∷◌, ◌++◌, map, ℕ, ◌-◌, leb, ltb, eqb, ℤ, pos, negsuc, ◌+ℤ◌, ◌*ℤ◌}
use Rattle.std.proofs.Math.Option.{Option, none, some}
use Rattle.std.specs.Int.Signed.{le_z}
use Rattle.records.specs.declared.line.Line.{Line}
use Rattle.records.specs.declared.line.Line.TheVariants.{Sporadic, Relation, Implies, Excludes, Delayed, Weakly, Strictly, Kills, Counted}
use Rattle.records.specs.Line.{of_sporadic, of_delayed, of_counted}
use Rattle.records.specs.Sheet.{SheetValue}
use Rattle.tesl.specs.Lists.{all, any, filter, count, last_of, always, flat_map, by_later, below}
use Rattle.tesl.specs.Run.{Filled, ticks_at, tag_in, tag_at}

-- equal whole numbers
abbrev pub eq_z : ℤ → ℤ → Bool
eq_z (pos a) (pos b) = eqb a b
eq_z (pos a) (negsuc b) = false
eq_z (negsuc a) (pos b) = false
eq_z (negsuc a) (negsuc b) = eqb a b

-- ---- what holds at each instant

-- the tags of the last instant
abbrev pub last_tags : List Filled → Option (List ℤ)
last_tags run = last_of (map (λ (f : Filled). f.tags) run)

-- no clock's tag is below its tag at the instant before
abbrev pub none_falls : ℕ → Option (List ℤ) → List ℤ → Bool
none_falls c none now = true
none_falls c (some was) now = below c (λ k. le_z (tag_in was k) (tag_in now k))

-- how often clock k has ticked
abbrev pub ticks_in : ℕ → List Filled → ℕ
ticks_in k run = count (λ (f : Filled). ticks_at f k) run

-- at f B makes its n-th tick after an instant, `between` being the instants from the following one on
abbrev pub nth_tick : ℕ → ℕ → List Filled → Filled → Bool
nth_tick B n between f = ticks_at f B && eqb (ticks_in B (between ++ (f ∷ []))) n

-- after each tick of A, D ticks at the instant at which B makes its n-th later tick; here of each tick of A before f
abbrev pub counted_at : ℕ → ℕ → ℕ → ℕ → List Filled → Filled → Bool
counted_at A B D n [] f = true
counted_at A B D n (g ∷ between) f = (not (ticks_at g A && nth_tick B n between f) || ticks_at f D) && counted_at A B D n between f

-- a line at the instant f, after the run `before`; a line that makes obligations with a due asks nothing here
abbrev pub holds_at : Line → List Filled → Filled → Bool
holds_at (Relation A B p q) before f = eq_z (tag_at f A) (p *ℤ tag_at f B +ℤ q)
holds_at (Implies A B) before f = not (ticks_at f A) || ticks_at f B
holds_at (Excludes A B) before f = not (ticks_at f A && ticks_at f B)
holds_at (Kills A B) before f = not (ticks_at f B && any (λ (g : Filled). ticks_at g A) (before ++ (f ∷ [])))
holds_at (Weakly A B) before f = leb (ticks_in B (before ++ (f ∷ []))) (ticks_in A (before ++ (f ∷ [])))
holds_at (Strictly A B) before f = leb (ticks_in B (before ++ (f ∷ []))) (ticks_in A before)
holds_at (Sporadic A B t) before f = true
holds_at (Delayed A B D d) before f = true
holds_at (Counted A B D n) before f = counted_at A B D n before f

abbrev pub fits_at : SheetValue → List Filled → Filled → Bool
fits_at s before f = none_falls s.clocks (last_tags before) f.tags && all (λ (l : Line). holds_at l before f) s.lines

-- ---- obligations

-- an obligation: its clock, its due, and the clock that its due is on
pub record Obligation : Type 0 where
  pub clock : ℕ
  pub due : ℤ
  pub on : ℕ

-- it is met by a tick of its clock at an instant whose on-tag equals the due
abbrev pub meets : Filled → Obligation → Bool
meets f o = ticks_at f o.clock && eq_z (tag_at f o.on) o.due

-- a sporadic line is one from the start
abbrev pub owed_at_start : Line → List Obligation
owed_at_start l = of_sporadic [] (λ A B t. record { clock = A; due = t; on = B } ∷ []) l

-- the end of the scale: the greatest tag
abbrev pub most_tag : ℤ
most_tag = pos 32767

-- each tick of A of a delay line begins one, unless its due would exceed the end of the scale, `most`
abbrev pub owed_from : ℤ → Filled → Line → List Obligation
owed_from most f l =
    of_delayed [] (λ A B D d. cond (ticks_at f A && le_z (tag_at f B +ℤ pos d) most) (record { clock = D; due = tag_at f B +ℤ pos d; on = B } ∷ []) []) l

-- those that no instant of the run meets
abbrev pub unmet_by : List Filled → List Obligation → List Obligation
unmet_by run os = filter (λ (o : Obligation). not (any (λ (f : Filled). meets f o) run)) os

-- those begun in the run that no later instant than the one that began them meets
abbrev pub unmet_later : ℤ → List Line → List Filled → List Obligation
unmet_later most ls run = by_later (λ f later. unmet_by later (flat_map (owed_from most f) ls)) run

-- the unmet obligations of a run
abbrev pub unmet : ℤ → List Line → List Filled → List Obligation
unmet most ls run = unmet_by run (flat_map owed_at_start ls) ++ unmet_later most ls run

-- an obligation that isn't met must have its due at or above the last on-tag (with no instant it has)
abbrev pub not_late : Option (List ℤ) → List Obligation → Bool
not_late none os = true
not_late (some now) os = all (λ (o : Obligation). le_z (tag_in now o.on) o.due) os

-- ---- countdowns

-- a tick that is owed by count: its clock, the clock that it is on, and how many ticks of that are still wanted, its own the last
pub record Countdown : Type 0 where
  pub clock : ℕ
  pub on : ℕ
  pub wanted : ℕ

-- each tick of A of a counted line begins one
abbrev pub counted_from : Filled → Line → List Countdown
counted_from f l = of_counted [] (λ A B D n. cond (ticks_at f A) (record { clock = D; on = B; wanted = n } ∷ []) []) l

-- what later instants leave of one: each tick of its on-clock is one fewer wanted, and after the last nothing is left
abbrev pub left_of : List Filled → Countdown → List Countdown
left_of later c =
    cond (ltb (ticks_in c.on later) c.wanted) (record { clock = c.clock; on = c.on; wanted = c.wanted - ticks_in c.on later } ∷ []) []

abbrev pub left_by : List Filled → List Countdown → List Countdown
left_by later cs = flat_map (left_of later) cs

-- those of a run: begun in it, and left by the instants from the following one on
abbrev pub run_countdowns : List Line → List Filled → List Countdown
run_countdowns ls run = by_later (λ f later. left_by later (flat_map (counted_from f) ls)) run

-- ---- a filled run fits
unfoldable pub fits : SheetValue → List Filled → Bool
fits s run = always (fits_at s) [] run && not_late (last_tags run) (unmet most_tag s.lines run)
