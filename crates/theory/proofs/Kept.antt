-- One fitting filling for each remainder that the fitting ones leave, and the numbers of distinct remainders, obligations and countdowns as lengths. Assumes nothing.
use mathlib.Core.Bool.{Bool}
use mathlib.Core.List.{List, map, Memᴰ}
use mathlib.Core.Logic.{◌↔◌}
use mathlib.Core.Path.{◌≡◌, refl, sym, subst}
use Prim.Native.Nat.{ℕ, ◌≤◌}
use native.Mathlib.Omega.{arith}
use lib.Dec.{T}
use lib.ListN.{length}
use Rattle.records.specs.Sheet.{SheetValue}
use Rattle.records.specs.Types.{All}
use Rattle.tesl.specs.Lists.{distinct}
use Rattle.tesl.specs.Run.{Instant, Filled}
use Rattle.tesl.specs.Fits.{most_tag, unmet, run_countdowns}
use Rattle.tesl.specs.Remainder.{remainder, same_remainder, same_obligation, same_countdown, distinct_count, owes, counts}
use Rattle.tesl.specs.Answer.{remainders}
use Rattle.theory.specs.Sets.{apart}
use Rattle.theory.specs.Limits.{OnScale}
use Rattle.theory.specs.Unmet.{Unmet, Counting}
use Rattle.theory.specs.Said.{Fitting, SameLeft, Leaves, Live, Having, Owing, CountingDown}
use Rattle.theory.proofs.Lists.{member-any, any-member}
use Rattle.theory.proofs.Members.{distinct-map, of-distinct, each_of, of-each, no_more, some_of, of-apart, to-apart}
use Rattle.theory.proofs.Sets.{Equivalence, distinct-set, distinct_apart}
use Rattle.theory.proofs.Respect.{Equality, by-equality, owed-equality, count-equality, remainder-equivalence}
use Rattle.theory.proofs.Unmet.{unmet-listed, countdowns-listed}
use Rattle.theory.proofs.Listed.{fittings, fitting-listed}
use Rattle.theory.proofs.SameLeft.{same_left, holds-ordered, left-tested, same_left-law}

-- ---- one fitting filling for each remainder that they leave

-- a test of what h gives
under : {A B : Type 0} {same : B → B → Bool} (h : A → B) → Equivalence same → Equivalence (λ x y. same (h x) (h y))
under h E = record {
  reflex = λ x. E.reflex (h x);
  swap = λ x y s. E.swap (h x) (h y) s;
  chain = λ x y z s t. E.chain (h x) (h y) (h z) s t;
}

pub left-equivalence : (s : SheetValue) → Equivalence (same_left s)
left-equivalence s = under (remainder s) remainder-equivalence

-- of two fitting fillings the test tells what they leave
pub fitting-left : (s : SheetValue) (run : List Instant) (f g : List Filled) → Fitting s run f → Fitting s run g → T (same_left s f g) → SameLeft s f g
fitting-left s run f g h k = (same_left-law s f g (holds-ordered s.lines f h.each_holds) (holds-ordered s.lines g k.each_holds)).0

unfoldable pub kept : SheetValue → List Instant → List (List Filled)
kept s run = distinct (same_left s) (fittings s run)

pub remainders-kept : (s : SheetValue) (run : List Instant) → remainders s run ≡ map (remainder s) (kept s run)
unfolding remainders fittings kept
remainders-kept s run = distinct-map same_remainder (remainder s) (fittings s run)

pub kept-fits : (s : SheetValue) (run : List Instant) → OnScale most_tag run → All (Fitting s run) (kept s run)
unfolding kept
kept-fits s run on = each_of (Fitting s run) (kept s run) (λ f m. (fitting-listed s run on f).0 (of-distinct (same_left s) (fittings s run) m))

pub kept-apart : (s : SheetValue) (run : List Instant) → T (apart (same_left s) (kept s run))
unfolding kept
kept-apart s run = distinct_apart (same_left s) (left-equivalence s) (fittings s run)

pub kept-all : (s : SheetValue) (run : List Instant) → OnScale most_tag run → (f : List Filled) → Fitting s run f → (g : List Filled) × Memᴰ g (kept s run) × T (same_left s f g)
unfolding kept
kept-all s run on f h = any-member (same_left s f) (kept s run)
    (subst T (sym (distinct-set (same_left s) (left-equivalence s) (fittings s run) f)) (member-any (same_left s f) ((fitting-listed s run on f).1 h) ((left-equivalence s).reflex f)))

unfoldable pub all-kept : (s : SheetValue) (run : List Instant) → OnScale most_tag run → Live s run (length (kept s run))
all-kept s run on = record {
  distinct-left = record { these = kept s run; number = refl; each_fits = kept-fits s run on; no-two = of-apart (same_left s) (SameLeft s) (left-tested s) (kept s run) (kept-apart s run) };
  no_other = λ f h.
      let g = kept-all s run on f h in
      (g.0, g.1, fitting-left s run f g.0 h (of-each (Fitting s run) (kept-fits s run on) g.1) g.2);
}

-- ---- numbers are lengths

pub leaves-apart : (s : SheetValue) (run : List Instant) (n : ℕ) (l : Leaves s run n) → T (apart (same_left s) l.these)
leaves-apart s run n l = to-apart (same_left s) (SameLeft s) (Fitting s run) (fitting-left s run) l.these l.each_fits l.no-two

pub leaves-number : (s : SheetValue) (run : List Instant) → OnScale most_tag run → (n : ℕ) → Leaves s run n ↔ (n ≤ length (kept s run))
leaves-number s run on n = (
  λ l.
      let k = no_more (same_left s) (left-equivalence s) l.these (kept s run) (leaves-apart s run n l) (λ f m. kept-all s run on f (of-each (Fitting s run) l.each_fits m)) in
      omega (arith, l.number),
  λ k.
      let r = some_of (same_left s) (Fitting s run) (kept s run) n k (kept-fits s run on) (kept-apart s run) in
      record { these = r.0; number = r.1; each_fits = r.2; no-two = of-apart (same_left s) (SameLeft s) (left-tested s) r.0 r.3 },
)

-- of a kind that is listed for each filled run
having-number : {A : Type 0} (same : A → A → Bool) → Equality same → (s : SheetValue) (run : List Instant) (Of : List Filled → A → Type 0) (list : List Filled → List A)
    → ((f : List Filled) (x : A) → Memᴰ x (list f) ↔ Of f x) → (n : ℕ) → Having Of s run n ↔ ((f : List Filled) × Fitting s run f × (n ≤ distinct_count same (list f)))
having-number {A} same Q s run Of list listed n = (
  λ w.
      let xs = list w.filling in
      let k = no_more same E w.these (distinct same xs) (to-apart same ◌≡◌ (λ x. Unit {0}) (λ x y p q. Q.equal x y) w.these (each_of (λ x. Unit {0}) w.these (λ x m. tt)) w.no-two)
      (λ x m. any-member (same x) (distinct same xs)
      (subst T (sym (distinct-set same E xs x)) (member-any (same x) ((listed w.filling x).1 (of-each (Of w.filling) w.each m)) (E.reflex x)))) in
      (w.filling, w.fits, omega (arith, w.number)),
  λ h.
      let xs = list h.0 in
      let r = some_of same (Of h.0) (distinct same xs) n h.2
      (each_of (Of h.0) (distinct same xs) (λ x m. (listed h.0 x).0 (of-distinct same xs m))) (distinct_apart same E xs) in
      record { filling = h.0; fits = h.1; these = r.0; number = r.1; each = r.2; no-two = of-apart same ◌≡◌ (λ x y e. subst (λ (z : A). T (same x z)) e (Q.own x)) r.0 r.3 },
)
  where
    E : Equivalence same
    E = by-equality Q

pub owing-number : (s : SheetValue) (run : List Instant) (n : ℕ) → Owing s run n ↔ ((f : List Filled) × Fitting s run f × (n ≤ owes (remainder s f)))
unfolding remainder owes
owing-number s run n = having-number same_obligation owed-equality s run (Unmet most_tag s.lines) (unmet most_tag s.lines) (unmet-listed most_tag s.lines) n

pub counting-number : (s : SheetValue) (run : List Instant) (n : ℕ) → CountingDown s run n ↔ ((f : List Filled) × Fitting s run f × (n ≤ counts (remainder s f)))
unfolding remainder counts
counting-number s run n = having-number same_countdown count-equality s run (Counting s.lines) (run_countdowns s.lines) (countdowns-listed s.lines) n
