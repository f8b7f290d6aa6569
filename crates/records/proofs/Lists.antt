-- Laws of the lists of the definitions: checks decided, places listed and filled, what holds of each element. Assumes nothing.
use mathlib.Core.Path.{◌≡◌, refl, sym, ap, ◌∙◌}
use mathlib.Core.Bool.{Bool, true, false, cond, ◌&&◌, ◌||◌, true≢false, false≢true}
use mathlib.Core.List.{List, [], ◌∷◌, ◌++◌, map}
use Prim.Native.Nat.{ℕ, zero, suc, ◌+◌, ◌-◌, ◌≤◌, ◌<◌}
use native.Mathlib.Omega.{arith}
use native.Mathlib.Nat.{add-zero, zero-add}
use native.Mathlib.Numerals.{add-one}
use lib.ListN.{length, get_or, take, drop, set, length-append, length-map, get_or-append, get_or-map}
use lib.Seq.{take-length, set-append_seam, append_snoc}
use Rattle.records.specs.Outcome.{Outcome, taken, refused, kept_as, Check, decide}
use Rattle.records.specs.Lists.{listed_from, listed, filled}
use Rattle.records.specs.Types.{All}

-- both tests of a pair passed; neither did
pub both : (x : Bool) {y : Bool} → (x && y) ≡ true → (x ≡ true) × (y ≡ true)
both true h = (refl, h)
both false h = absurd (false≢true h)

pub neither : (x : Bool) {y : Bool} → (x || y) ≡ false → (x ≡ false) × (y ≡ false)
neither true h = absurd (true≢false h)
neither false h = (refl, h)

-- ---- checks

-- no condition holds
abbrev pub Passed : List Check → Type 0
Passed cs = All (λ (c : Check). c.holds ≡ false) cs

pub refused-taken : {A : Type 0} {X : Type 0} {n : ℕ} {v : A} → refused n ≡ taken v → X
refused-taken e = let z : ◌≡◌ {A = ℕ} 0 1 = cc in absurd (omega arith)

pub taken-same : {A : Type 0} {v w : A} → ◌≡◌ {A = Outcome A} (taken v) (taken w) → v ≡ w
taken-same e = cc

pub refused-same : {A : Type 0} {m n : ℕ} → ◌≡◌ {A = Outcome A} (refused m) (refused n) → m ≡ n
refused-same e = cc

-- an outcome kept as another tells what it was
module _ {A B : Type 0} (f : A → B) where
  pub kept-refused : (o : Outcome A) {n : ℕ} → refused n ≡ kept_as f o → o ≡ refused n
  kept-refused (taken v) e = refused-taken e
  kept-refused (refused m) e = cc

  pub kept-taken : (o : Outcome A) {w : B} → taken w ≡ kept_as f o → (v : A) × (o ≡ taken v) × (w ≡ f v)
  kept-taken (taken v) e = (v, refl, cc)
  kept-taken (refused n) e = refused-taken (sym e)

module _ {A : Type 0} where
  pub taken-passed : (cs : List Check) {v w : A} → decide cs v ≡ taken w → Passed cs × (v ≡ w)
  taken-passed [] e = (tt, cc)
  taken-passed (c ∷ cs) {v} {w} e = by-test c.holds refl (taken-passed cs) e
    where
      by-test : (t : Bool) → c.holds ≡ t → (decide cs v ≡ taken w → Passed cs × (v ≡ w)) → cond t (refused c.number) (decide cs v) ≡ taken w → Passed (c ∷ cs) × (v ≡ w)
      by-test true h ih e = refused-taken e
      by-test false h ih e = let r = ih e in ((h, r.0), r.1)

  pub passed-taken : (cs : List Check) (v : A) → Passed cs → decide cs v ≡ taken v
  passed-taken [] v h = refl
  passed-taken (c ∷ cs) v h = rw h.0 (passed-taken cs v h.1)

pub passed-append : (cs ds : List Check) → Passed (cs ++ ds) → Passed cs
passed-append [] ds h = tt
passed-append (c ∷ cs) ds h = (h.0, passed-append cs ds h.1)

module _ {A : Type 0} (ds : List Check) (v : A) where
  -- checks that pass leave it to those after them
  pub decide-passed : (cs : List Check) → Passed cs → decide (cs ++ ds) v ≡ decide ds v
  decide-passed [] h = refl
  decide-passed (c ∷ cs) h = rw h.0 (decide-passed cs h.1)

  -- checks in front of the same decision leave it the same
  pub decide-behind : (cs es : List Check) → decide ds v ≡ decide es v → decide (cs ++ ds) v ≡ decide (cs ++ es) v
  decide-behind [] es e = e
  decide-behind (c ∷ cs) es e = ap (cond c.holds (refused c.number)) (decide-behind cs es e)

  -- the first refusal decides
  pub decide-refused : {B : Type 0} (cs : List Check) (x : B) {n : ℕ} → decide cs x ≡ refused n → decide (cs ++ ds) v ≡ refused n
  decide-refused [] x e = refused-taken (sym e)
  decide-refused (c ∷ cs) x {n} e = by-test c.holds (decide-refused cs x) e
    where
      by-test : (t : Bool) → (decide cs x ≡ refused n → decide (cs ++ ds) v ≡ refused n) → cond t (refused c.number) (decide cs x) ≡ refused n
          → cond t (refused c.number) (decide (cs ++ ds) v) ≡ refused n
      by-test true ih e = cc
      by-test false ih e = ih e

-- checks pass, or refuse whatever checks stand behind them
pub data Decided (A : Type 0) (cs : List Check) : Type 0 where
  passes : Passed cs → Decided A cs
  stops : (n : ℕ) → ((ds : List Check) (v : A) → decide (cs ++ ds) v ≡ refused n) → Decided A cs

pub decided : {A : Type 0} (cs : List Check) → Decided A cs
decided {A} cs = by-outcome (decide cs tt) refl
  where
    by-outcome : (o : Outcome (Unit {0})) → decide cs tt ≡ o → Decided A cs
    by-outcome (taken x) e = passes (taken-passed cs e).0
    by-outcome (refused n) e = stops n (λ ds v. decide-refused ds v cs tt e)

-- what holds of the number of each check holds of a refusal's
pub refused-number : {A : Type 0} (P : ℕ → Type 0) (cs : List Check) (v : A) {n : ℕ} → All (λ (c : Check). P c.number) cs → decide cs v ≡ refused n → P n
refused-number P [] v h e = refused-taken (sym e)
refused-number P (c ∷ cs) v {n} h e = by-test c.holds (refused-number P cs v h.1) e
  where
    by-test : (t : Bool) → (decide cs v ≡ refused n → P n) → cond t (refused c.number) (decide cs v) ≡ refused n → P n
    by-test true ih e = let k : c.number ≡ n = cc in rw k at h.0
    by-test false ih e = ih e

module _ {A : Type 0} where
  -- ---- what holds of each element
  module _ (P : A → Type 0) where
    pub all_take : (n : ℕ) (xs : List A) → All P xs → All P (take n xs)
    all_take zero xs h = tt
    all_take (suc n) [] h = tt
    all_take (suc n) (x ∷ xs) h = (h.0, all_take n xs h.1)

    pub all_drop : (n : ℕ) (xs : List A) → All P xs → All P (drop n xs)
    all_drop zero xs h = h
    all_drop (suc n) [] h = tt
    all_drop (suc n) (x ∷ xs) h = all_drop n xs h.1

    pub all_append : (xs ys : List A) → All P xs → All P ys → All P (xs ++ ys)
    all_append [] ys h g = g
    all_append (x ∷ xs) ys h g = (h.0, all_append xs ys h.1 g)

    pub all_snoc : (xs : List A) {x : A} → All P xs → P x → All P (xs ++ (x ∷ []))
    all_snoc [] h p = (p, tt)
    all_snoc (y ∷ xs) h p = (h.0, all_snoc xs h.1 p)

  -- ---- places
  later : (f : ℕ → A) (i n : ℕ) → listed_from f (i + 1) n ≡ listed_from (λ j. f (suc j)) i n
  unfolding listed_from
  later f i zero = refl
  later f i (suc n) = rw (later f (i + 1) n, add-one i)

  -- the list of what stands at each of the first n places of it, and at every place
  pub listed-take : (d : A) (f : ℕ → A) (n : ℕ) (xs : List A) → n ≤ length xs → ((i : ℕ) → i < n → f i ≡ get_or xs i d) → listed f n ≡ take n xs
  unfolding listed_from
  listed-take d f zero xs l h = refl
  listed-take d f (suc n) [] l h = absurd (omega arith)
  listed-take d f (suc n) (x ∷ xs) l h = rw (h 0 (omega arith), later f 0 n, listed-take d (λ j. f (suc j)) n xs (omega arith) (λ j l. h (suc j) (omega arith)))

  pub listed_of : (d : A) (f : ℕ → A) (xs : List A) → ((i : ℕ) → i < length xs → f i ≡ get_or xs i d) → listed f (length xs) ≡ xs
  listed_of d f xs h = listed-take d f (length xs) xs (omega arith) h ∙ take-length xs

  length_from : (f : ℕ → A) (i n : ℕ) → length (listed_from f i n) ≡ n
  unfolding listed_from
  length_from f i zero = refl
  length_from f i (suc n) = ap suc (length_from f (i + 1) n)

  pub length-listed : (f : ℕ → A) (n : ℕ) → length (listed f n) ≡ n
  length-listed f n = length_from f 0 n

pub filled_at : {A B : Type 0} (g : A → B) (n : ℕ) (d : A) (xs : List A) (i : ℕ) → i < length xs → get_or (filled n (g d) (map g xs)) i (g d) ≡ g (get_or xs i d)
filled_at g n d xs i h = get_or-append (map g xs) _ (g d) i (rw length-map h) ∙ get_or-map g xs i d

pub map-append : {A B : Type 0} (f : A → B) (xs ys : List A) → map f (xs ++ ys) ≡ map f xs ++ map f ys
map-append f [] ys = refl
map-append f (x ∷ xs) ys = ap (λ (zs : List _). f x ∷ zs) (map-append f xs ys)

-- the places from i up to n, the first of them and the rest; the places below i + 1, and the last of them
module _ {A : Type 0} (f : ℕ → A) where
  pub listed_cons : (n i : ℕ) → i < n → listed_from f i (n - i) ≡ f i ∷ listed_from f (i + 1) (n - (i + 1))
  unfolding listed_from
  listed_cons n i h = let k : n - i ≡ suc (n - (i + 1)) = omega arith in rw k

  pub listed-end : (n i : ℕ) → n ≤ i → listed_from f i (n - i) ≡ []
  unfolding listed_from
  listed-end n i h = let k : n - i ≡ 0 = omega arith in rw k

  from-snoc : (i n : ℕ) → listed_from f i (suc n) ≡ listed_from f i n ++ (f (i + n) ∷ [])
  unfolding listed_from
  from-snoc i zero = rw add-zero
  from-snoc i (suc n) =
      let k : i + 1 + n ≡ i + suc n = omega arith in
      ap (λ (xs : List A). f i ∷ xs) (from-snoc (i + 1) n ∙ rw k)

  pub listed-snoc : (n : ℕ) → listed f (n + 1) ≡ listed f n ++ (f n ∷ [])
  listed-snoc n = rw (add-one, from-snoc 0 n, zero-add)

-- one place more is used
pub filled-set : {A : Type 0} (n i : ℕ) (d x : A) (xs : List A) → length xs ≡ i → i < n → set (filled n d xs) i x ≡ filled n d (xs ++ (x ∷ []))
filled-set n i d x xs e h =
    let k : n - length xs ≡ suc (n - (length xs + 1)) = omega arith in
    let l : length (xs ++ (x ∷ [])) ≡ length xs + 1 = length-append xs (x ∷ []) in
    rw (← e, k, set-append_seam, l) (sym (append_snoc xs x _))
