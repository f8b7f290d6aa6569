-- What an instant makes of the remainders held, by its listed fillings: those that the rules allow, at most 256. Assumes nothing.
use mathlib.Core.Bool.{Bool, true, false, cond, ◌&&◌}
use mathlib.Core.List.{List, [], ◌∷◌, ◌++◌}
use mathlib.Core.Option.{Option, some}
use mathlib.Core.Path.{◌≡◌, refl, sym, ap, ◌∙◌}
use Prim.Native.Nat.{ℕ, zero, suc, ◌+◌, ◌<◌, ◌≤◌}
use native.Mathlib.Nat.{zero-add, le_trans}
use native.Mathlib.Omega.{arith}
use lib.IntN.{ℤ}
use lib.ListN.{length, get_or, set, replicate, take, length-append, length-take}
use Rattle.records.specs.declared.instant.Tick.{Tick}
use Rattle.records.specs.declared.instant.Tick.TheVariants.{Idle, Ticks, Unseen}
use Rattle.records.specs.declared.line.Line.{Line}
use Rattle.records.specs.Lists.{listed_from}
use Rattle.records.specs.Sheet.{SheetValue}
use Rattle.tesl.specs.Lists.{all, filter, flat_map}
use Rattle.tesl.specs.Fits.{none_falls}
use Rattle.tesl.specs.Remainder.{Remainder}
use Rattle.work.specs.View.{seen_of}
use Rattle.work.specs.Questions.{tags_hold}
use Rattle.work.specs.Parts.{is_relation, is_rule}
use Rattle.work.specs.Rules.{allowed}
use Rattle.work.specs.Fillings.{fillings_from, fillings_in, taken_by, by_filling}
use Rattle.work.specs.Relevant.{awaited_clocks, fillings_left, named_by, flagged, is_relevant, relevant_only}
use Rattle.work.specs.Work.{filling, fill_from, worked}
use Rattle.work.proofs.Parts.{relations-enough, rules-enough}
use Rattle.work.proofs.Relevant.{relevant-enough}

-- ---- the fillings, one after the other
module _ {R : Type 0} (g : R → List Bool → R) where
  taken-append : (xs ys : List (List Bool)) (r : R) → taken_by g (xs ++ ys) r ≡ taken_by g ys (taken_by g xs r)
  taken-append [] ys r = refl
  taken-append (x ∷ xs) ys r = taken-append xs ys (g r x)

  fill-taken : (k : ℕ) (left : List Tick) (ticks : List Bool) (r : R) → fill_from g k left ticks r ≡ taken_by g (fillings_from k left ticks) r
  fill-taken k [] ticks r = refl
  fill-taken k (Idle ∷ left) ticks r = fill-taken (k + 1) left ticks r
  fill-taken k (Ticks ∷ left) ticks r = fill-taken (k + 1) left (set ticks k true) r
  fill-taken k (Unseen ∷ left) ticks r =
      let idle = fillings_from (k + 1) left ticks in
      let more = fillings_from (k + 1) left (set ticks k true) in
      fill-taken (k + 1) left (set ticks k true) _ ∙ ap (taken_by g more) (fill-taken (k + 1) left ticks r) ∙ sym (taken-append idle more r)

-- one that p refuses leaves what was found
module _ {R : Type 0} (g f : R → List Bool → R) (p : List Bool → Bool) (h : (r : R) (t : List Bool) → g r t ≡ cond (p t) (f r t) r) where
  by-test : (q : Bool) (t : List Bool) (ts : List (List Bool)) (r : R) → ((x : R) → taken_by g ts x ≡ taken_by f (filter p ts) x) → taken_by g ts (cond q (f r t) r) ≡ taken_by f (cond q (t ∷ filter p ts) (filter p ts)) r
  by-test true t ts r ih = ih (f r t)
  by-test false t ts r ih = ih r

  taken-filter : (ts : List (List Bool)) (r : R) → taken_by g ts r ≡ taken_by f (filter p ts) r
  taken-filter [] r = refl
  taken-filter (t ∷ ts) r = ap (taken_by g ts) (h r t) ∙ by-test (p t) t ts r (taken-filter ts)

-- ---- how many: twice as many for each unseen tick
abbrev powers : ℕ → ℕ
powers zero = 1
powers (suc n) = powers n + powers n

some-power : (n : ℕ) → 1 ≤ powers n
some-power zero = omega arith
some-power (suc n) = omega (arith, some-power n)

few : (n k : ℕ) (left : List Tick) (ticks : List Bool) → length left ≤ n → length (fillings_from k left ticks) ≤ powers n
few n k [] ticks h = some-power n
few zero k (t ∷ left) ticks h = absurd (omega arith)
few (suc n) k (Idle ∷ left) ticks h = omega (arith, few n (k + 1) left ticks (omega arith))
few (suc n) k (Ticks ∷ left) ticks h = omega (arith, few n (k + 1) left (set ticks k true) (omega arith))
few (suc n) k (Unseen ∷ left) ticks h =
    let idle = few n (k + 1) left ticks (omega arith) in
    let more = few n (k + 1) left (set ticks k true) (omega arith) in
    omega (arith, length-append (fillings_from (k + 1) left ticks) (fillings_from (k + 1) left (set ticks k true)), idle, more)

length-relevant : (p : ℕ → Bool) (k : ℕ) (seen : List Tick) → length (relevant_only p k seen) ≡ length seen
length-relevant p k [] = refl
length-relevant p k (t ∷ seen) = ap suc (length-relevant p (k + 1) seen)

pub at-most-256 : (flags : List Bool) (seen : List Tick) (c : ℕ) (ticks : List Bool) → c ≤ 8 → 0 + length (fillings_left flags seen c 0 ticks) ≤ 256
at-most-256 flags seen c ticks h =
    rw zero-add
    (few 8 0 (relevant_only (λ j. get_or flags j true) 0 (seen_of c seen)) ticks (omega (arith, length-relevant (λ j. get_or flags j true) 0 (seen_of c seen), length-take c seen)))

pub few-listed : (flags : List Bool) (seen : List Tick) (c : ℕ) (ticks : List Bool) {m : ℕ} → c ≤ 8 → m ≤ 0 + length (fillings_left flags seen c 0 ticks) → m ≤ 256
few-listed flags seen c ticks h l = le_trans l (at-most-256 flags seen c ticks h)

-- ---- an instant
module _ (room : ℕ) (v : SheetValue) (tags : List ℤ) (rs : List Remainder) where
  filling-allowed : (found : Option (List Remainder)) (ticks : List Bool) → filling room v tags rs found ticks ≡ cond (allowed (filter is_rule v.lines) ticks) (by_filling room v tags rs found ticks) found
  unfolding filling
  filling-allowed found ticks = rw (rules-enough v.lines ticks)

  filled-listed : (seen : List Tick) (ticks : List Bool) (found : Option (List Remainder)) → fill_from (filling room v tags rs) 0 seen ticks found ≡ taken_by (by_filling room v tags rs) (filter (allowed (filter is_rule v.lines)) (fillings_from 0 seen ticks)) found
  filled-listed seen ticks found = fill-taken (filling room v tags rs) 0 seen ticks found ∙ taken-filter (filling room v tags rs) (by_filling room v tags rs) (allowed (filter is_rule v.lines)) filling-allowed (fillings_from 0 seen ticks) found

module _ (room : ℕ) (v : SheetValue) (last : Option (List ℤ)) (ticks : List Tick) (tags : List ℤ) where
  abbrev seen : List Tick
  seen = seen_of v.clocks ticks

  work-some : (rs : List Remainder) → 0 < length rs
      → worked room v last seen tags (some rs)
      ≡ cond (none_falls v.clocks last tags && all (tags_hold tags) v.lines) (fill_from (filling room v tags rs) 0 seen (replicate 8 false) (some [])) (some [])
  unfolding worked
  work-some [] h = absurd (omega arith)
  work-some (r ∷ rs) h = refl

  -- the tags by the relations alone
  module _ (rs : List Remainder) (many : 0 < length rs) {clocks : ℕ} (c : clocks ≡ v.clocks) {relations : List Line} (d : relations ≡ filter is_relation v.lines) {q : Bool}
      (f : q ≡ (none_falls clocks last tags && all (tags_hold tags) relations)) where
    by_tags : {b : Bool} → q ≡ b → worked room v last seen tags (some rs) ≡ cond b (fill_from (filling room v tags rs) 0 seen (replicate 8 false) (some [])) (some [])
    by_tags g =
        let fit : (none_falls v.clocks last tags && all (tags_hold tags) v.lines) ≡ q = sym (f ∙ rw (c, d, relations-enough tags v.lines)) in
        work-some rs many ∙ rw (fit, g)

    pub worked-no : q ≡ false → worked room v last seen tags (some rs) ≡ some []
    worked-no g = by_tags g

    pub worked-yes : q ≡ true → {owed : List ℕ} → flat_map awaited_clocks rs ≡ owed → {flags : List Bool} → flags ≡ flagged owed (flagged (flat_map named_by v.lines) (replicate 8 false)) → {rules : List Line} → rules ≡ filter is_rule v.lines
        → (list : List Bool) {fillings : List (List Bool)} → fillings ≡ fillings_in list 0 ++ filter (allowed rules) (fillings_left flags ticks clocks 0 (replicate 8 false))
        → {found : Option (List Remainder)} → found ≡ taken_by (by_filling room v tags rs) fillings (some []) → found ≡ worked room v last seen tags (some rs)
    unfolding listed_from
    worked-yes g {owed = owed} o s k list l p =
        p
        ∙ rw (l, s, k, c)
        (sym
        (by_tags g ∙ relevant-enough room v tags rs o seen (replicate 8 false) (some [])
        ∙ filled-listed room v tags rs (relevant_only (is_relevant v.lines owed) 0 seen) (replicate 8 false) (some [])))
