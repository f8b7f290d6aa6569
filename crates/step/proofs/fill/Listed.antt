-- The fillings of the clocks from k on as a list, clock by clock. Assumes nothing.
use mathlib.Core.Bool.{Bool, true, false}
use mathlib.Core.List.{List, [], ◌∷◌, ◌++◌, append_assoc, append-nil}
use mathlib.Core.Path.{◌≡◌, refl, sym, ap, subst, ◌∙◌}
use Prim.Native.Nat.{ℕ, zero, suc, ◌+◌, ◌<◌, ◌≤◌}
use native.Mathlib.Omega.{arith}
use lib.ListN.{length, get_or, drop, take, set, length-append}
use Rattle.records.specs.declared.instant.Tick.{Tick}
use Rattle.records.specs.declared.instant.Tick.TheVariants.{Idle, Ticks, Unseen}
use Rattle.records.specs.Instant.{tick_at}
use Rattle.tesl.specs.Lists.{filter}
use Rattle.theory.proofs.Lists.{filter-append}
use Rattle.work.specs.View.{seen_of}
use Rattle.work.specs.Fillings.{fillings_in}
use Rattle.work.specs.Relevant.{fillings_left}
use Rattle.step.specs.Fill.{Listed}
use Rattle.remainders.proofs.Places.{as_is, rest_end, rest-cons}

-- ---- the first n elements from place i on
module _ {A : Type 0} (xs : List A) (n i : ℕ) where
  rest_of_end : n ≤ i → drop i (take n xs) ≡ []
  rest_of_end h = rw as_is at (rest_end (λ (x : A). x) xs n i h)

  rest_of_cons : (d : A) → i < n → n ≤ length xs → drop i (take n xs) ≡ get_or xs i d ∷ drop (i + 1) (take n xs)
  rest_of_cons d h l = rw as_is at (rest-cons (λ (x : A). x) xs n i d h l)

-- a flag that is there, whatever reads past the end
flag-there : (flags : List Bool) (k : ℕ) → k < length flags → get_or flags k true ≡ get_or flags k false
flag-there [] k h = absurd (omega arith)
flag-there (b ∷ flags) zero h = refl
flag-there (b ∷ flags) (suc k) h = flag-there flags k (omega arith)

-- ---- the clocks from k on
module _ (flags : List Bool) (seen : List Tick) (clocks k : ℕ) (ticks : List Bool) where
  abbrev left : ℕ → List Bool → List (List Bool)
  left j more = fillings_left flags seen clocks j more

  pub left_end : k ≡ clocks → left k ticks ≡ ticks ∷ []
  left_end h = rw (rest_of_end seen clocks k (omega arith))

  module _ (h : k < clocks) (l : clocks ≤ length seen) where
    here : (x : Tick) → tick_at seen k ≡ x → drop k (seen_of clocks seen) ≡ x ∷ drop (k + 1) (seen_of clocks seen)
    here x f = rest_of_cons seen clocks k Idle h l ∙ rw f

    by-flag-idle : (b : Bool) → get_or flags k true ≡ b → tick_at seen k ≡ Idle → left k ticks ≡ left (k + 1) ticks
    by-flag-idle true g f = rw (here Idle f, g)
    by-flag-idle false g f = rw (here Idle f, g)

    pub left-idle : tick_at seen k ≡ Idle → left k ticks ≡ left (k + 1) ticks
    left-idle = by-flag-idle (get_or flags k true) refl

    -- an unseen tick whose clock has no flag
    pub left-irrelevant : k < length flags → tick_at seen k ≡ Unseen → get_or flags k false ≡ false → left k ticks ≡ left (k + 1) ticks
    left-irrelevant m f g = rw (here Unseen f, flag-there flags k m ∙ g)

    module _ {next : List Bool} (p : next ≡ set ticks k true) where
      by-flag-ticks : (b : Bool) → get_or flags k true ≡ b → tick_at seen k ≡ Ticks → left k ticks ≡ left (k + 1) next
      by-flag-ticks true g f = rw (here Ticks f, g, p)
      by-flag-ticks false g f = rw (here Ticks f, g, p)

      pub left-ticks : tick_at seen k ≡ Ticks → left k ticks ≡ left (k + 1) next
      left-ticks = by-flag-ticks (get_or flags k true) refl

      pub left-unseen : k < length flags → tick_at seen k ≡ Unseen → get_or flags k false ≡ true → left k ticks ≡ left (k + 1) ticks ++ left (k + 1) next
      left-unseen m f g = rw (here Unseen f, flag-there flags k m ∙ g, p)

-- ---- there is room for those left
pub room-same : (n : ℕ) {fs gs : List (List Bool)} → fs ≡ gs → n + length fs ≤ 256 → n + length gs ≤ 256
room-same n e h = omega (arith, ap length e)

pub room-first : (n : ℕ) (fs gs : List (List Bool)) {hs : List (List Bool)} → hs ≡ fs ++ gs → n + length hs ≤ 256 → n + length fs ≤ 256
room-first n fs gs e h = omega (arith, ap length e, length-append fs gs)

pub room-second : (n m : ℕ) (fs gs : List (List Bool)) {hs : List (List Bool)} → hs ≡ fs ++ gs → n + length hs ≤ 256 → m ≤ n + length fs → m + length gs ≤ 256
room-second n m fs gs e h l = omega (arith, ap length e, length-append fs gs)

-- ---- the fillings that p allows, listed after the first n
module _ (p : List Bool → Bool) where
  pub listed-none : (fs : List (List Bool)) (n : ℕ) (list : List Bool) → filter p fs ≡ [] → length list ≡ 2048 → Listed p fs n n list list
  listed-none fs n list e l = record { size = l; fewer = omega arith; listed = rw e (sym (append-nil (fillings_in list n))) }

  pub listed_same : {fs gs : List (List Bool)} {n r : ℕ} {a b : List Bool} → fs ≡ gs → Listed p gs n r a b → Listed p fs n r a b
  listed_same {n = n} {r} {a} {b} e s = subst (λ (xs : List (List Bool)). Listed p xs n r a b) (sym e) s

  -- two lists of them, one after the other
  pub listed-both : {fs gs hs : List (List Bool)} {n m r : ℕ} {a b c : List Bool} → hs ≡ fs ++ gs → Listed p fs n m a b → Listed p gs m r b c → Listed p hs n r a c
  listed-both {fs} {gs} e x y = listed_same e (record { size = y.size; fewer = omega (arith, x.fewer, y.fewer, length-append fs gs); listed = y.listed ∙ rw (x.listed, filter-append p fs gs, append_assoc) })
