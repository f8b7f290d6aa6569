-- How a list is counted entry by entry, and which of a monitor's entries the panel counts. Assumes nothing.
use Rattle.std.specs.Prelude.{None, Option, Some}
use mathlib.Core.Bool.{Bool, true, false, not, cond, ◌||◌}
use mathlib.Core.List.{List, [], ◌∷◌}
use mathlib.Core.Path.{◌≡◌, refl, sym, ap, ◌∙◌, subst}
use Prim.Native.Nat.{ℕ, zero, suc, ◌+◌, ◌≤◌, ◌<◌}
use native.Mathlib.Numerals.{add-one}
use native.Mathlib.Omega.{arith}
use lib.Dec.{T, leb, leb→le}
use lib.ListN.{length, get_or, take, drop}
use lib.Seq.{drop-cons}
use borrow.Author.Tests.{le-leb}
use Rattle.std.specs.List.{list_any}
use Rattle.tesl.specs.Lists.{any}
use Rattle.records.specs.Outcome.{taken, refused}
use Rattle.records.proofs.Lists.{both}
use Rattle.tesl.proofs.Tests.{≡→T}
use Rattle.theory.specs.Step.{bit}
use Rattle.theory.proofs.Lists.{any-map}
use Rattle.remainders.specs.declared.remainder.Remainder.{Remainder}
use Rattle.judge.specs.declared.monitor.Monitor.{Monitor}
use Rattle.judge.specs.Limits.{sheet_within, held_within, monitor_within}
use Rattle.judge.specs.Monitor.{sheet_by}
use Rattle.panel.specs.Panel.{owes_in, entry_owes, owing_count, panel_count}

-- std's question of a list is this one
pub any-std : {A : Type 0} (p : A → Bool) (xs : List A) → list_any p xs ≡ any p xs
any-std p [] = refl
any-std p (x ∷ xs) = ap (λ (b : Bool). p x || b) (any-std p xs)

-- ---- an entry

module _ (clock : ℕ) (r : Remainder) where
  -- within both limits, one of either
  pub owes-either : r.owed ≤ 8 → r.counting ≤ 8 → (owes_in clock r.owed r.obligations || owes_in clock r.counting r.countdowns) ≡ entry_owes clock r
  owes-either h k = rw (le-leb _ _ h, le-leb _ _ k, any-map, any-map) refl

-- ---- a list

count-bit : (b : Bool) (n : ℕ) → cond b (suc n) n ≡ bit b + n
count-bit true n = omega arith
count-bit false n = omega arith

pub step_count : (k : ℕ) (ys : List Remainder) (i : ℕ) (d : Remainder) → i < length ys → owing_count k (drop i ys) ≡ bit (entry_owes k (get_or ys i d)) + owing_count k (drop (i + 1) ys)
unfolding owing_count
step_count k ys i d l = rw (add-one, drop-cons ys i d l) (count-bit (entry_owes k (get_or ys i d)) _)

pub end-count : (k : ℕ) (ys : List Remainder) (i : ℕ) → length ys ≤ i → owing_count k (drop i ys) ≡ 0
unfolding owing_count
end-count k [] zero h = refl
end-count k [] (suc i) h = refl
end-count k (y ∷ ys) zero h = absurd (omega arith)
end-count k (y ∷ ys) (suc i) h = end-count k ys i (omega arith)

-- an entry more is counted: `b` is whether it owes, and `whole` what the list counts
pub count-next : (k : ℕ) (ys : List Remainder) (i : ℕ) (d : Remainder) (b : Bool) (n m whole : ℕ) → i < length ys → b ≡ entry_owes k (get_or ys i d) → n + owing_count k (drop i ys) ≡ whole → m ≡ n + bit b → m + owing_count k (drop (i + 1) ys) ≡ whole
count-next k ys i d b n m whole l o e q = omega (arith, step_count k ys i d l, ap bit o, e, q)

-- some entry of a list that is not empty
pub some-entry : (ys : List Remainder) (i : ℕ) → i < length ys → Remainder
some-entry [] i l = absurd (omega arith)
some-entry (y ∷ ys) i l = y

pub bit-small : (t : Bool) → bit t ≤ 1
bit-small true = omega arith
bit-small false = omega arith

pub is_one : (t : Bool) → T t → bit t ≡ 1
is_one true h = refl
is_one false h = absurd h

pub is_none : (t : Bool) → T (not t) → bit t ≡ 0
is_none true h = absurd h
is_none false h = refl

-- ---- a monitor

pub within_held : (m : Monitor) → monitor_within m ≡ true → held_within (sheet_by m) m.instants m.held.count m.held.remainders ≡ true
unfolding monitor_within
within_held m e = (both (leb m.instants 4000) (both (sheet_within (sheet_by m)) e).1).1

module _ (m : Monitor) {b : Bool} (e : b ≡ monitor_within m) where
  pub shows-refused : (clock : ℕ) → b ≡ false → refused 11 ≡ panel_count clock m
  unfolding panel_count
  shows-refused clock t = let w : monitor_within m ≡ false = sym e ∙ t in rw w

  module _ (t : b ≡ true) where
    inside : monitor_within m ≡ true
    inside = sym e ∙ t

    -- no more are live than the array has
    pub live-few : (n : ℕ) → m.held.count ≡ Some n → n ≤ 32
    unfolding held_within
    live-few n f =
        let rs = m.held.remainders in
        let h = subst (λ (c : Option ℕ). held_within (sheet_by m) m.instants c rs ≡ true) f (within_held m inside) in
        leb→le n 32 (≡→T (both (leb n 32) h).0)

    pub shows-none : (clock : ℕ) → m.held.count ≡ None → taken 0 ≡ panel_count clock m
    unfolding panel_count owing_count
    shows-none clock f = rw (inside, f)

    pub shows-live : (clock n : ℕ) → m.held.count ≡ Some n → (r : ℕ) → r ≡ owing_count clock (take n m.held.remainders) → taken r ≡ panel_count clock m
    unfolding panel_count
    shows-live clock n f r h = rw (inside, f, h)
