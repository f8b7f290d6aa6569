-- The successors found so far, each once, while there is room: what one more makes of them, and a fold. Assumes nothing.
use mathlib.Core.Bool.{Bool, true, false, not, cond}
use mathlib.Core.List.{List, [], ◌∷◌, ◌++◌, append-nil, append_assoc, Memᴰ}
use mathlib.Core.Option.{Option, none, some}
use mathlib.Core.Path.{◌≡◌, sym, subst}
use Prim.Native.Nat.{◌≤◌, ℕ}
use native.Mathlib.Omega.{arith}
use lib.Dec.{T, T_not, not_T, ltb, ltb→lt, nltb→le}
use lib.IntN.{ℤ}
use lib.ListN.{length, length-append}
use Rattle.records.specs.Sheet.{SheetValue}
use Rattle.records.specs.Types.{All}
use Rattle.tesl.specs.Lists.{any, flat_map}
use Rattle.tesl.specs.Run.{Instant, Filled, fillings}
use Rattle.tesl.specs.Remainder.{Remainder, same_remainder, overfull}
use Rattle.tesl.specs.Answer.{exhausted}
use Rattle.tesl.proofs.Tests.{or-e}
use Rattle.theory.specs.Sets.{Covers, EachOnce}
use Rattle.theory.specs.Adding.{added_to}
use Rattle.theory.specs.Step.{next, step_ok}
use Rattle.theory.specs.Held.{successors}
use Rattle.theory.specs.Tracks.{Finding, one_more, too-full}
use Rattle.theory.proofs.Fill.{foldl}
use Rattle.theory.proofs.Lists.{any_snoc, each_snoc}
use Rattle.theory.proofs.Members.{of-each}
use Rattle.theory.proofs.Sets.{any_same, again, fresh}
use Rattle.theory.proofs.Respect.{remainder-equivalence}
use Rattle.theory.proofs.Held.{successor-found}
use Rattle.work.specs.Advanced.{Advanced}
use Rattle.work.specs.Work.{same_counted, inserted, took}
use Rattle.work.proofs.Counted.{Once, any-counted}
use Rattle.work.proofs.Advance.{Steps, broken, too_many-law, goes}

-- ---- those found

module _ (room : ℕ) (v : SheetValue) (last : Option (List ℤ)) (i : Instant) (rs : List Remainder) where
  -- xs are successors; and the reached ones, where each of rs has an obligation once and a countdown once
  pub record Gathered (reached xs : List Remainder) : Type 0 where
    pub among : Covers same_remainder xs (successors v last i rs)
    pub live : length xs ≤ room
    pub owe : T (not (any overfull xs))
    pub tidy : All Once rs → All Once xs
    pub once : All Once rs → EachOnce same_remainder xs reached

  -- or there is a reason to answer exhausted
  abbrev pub Gathering : List Remainder → Option (List Remainder) → Type 0
  Gathering reached none = All Once rs → (new : List Remainder) → Finding room v last i rs exhausted new
  Gathering reached (some xs) = Gathered reached xs

  -- ---- one remainder by one filling

  module _ {f : Filled} {r : Remainder} (m : Memᴰ r rs) (n : Memᴰ f (fillings i)) where
    -- what it becomes, if it goes on, is a successor
    goes_on-law : (x : Remainder) → T (step_ok v last f r) → T (same_remainder x (next v f r)) → T (any (same_remainder x) (successors v last i rs))
    goes_on-law x ok s = any_same same_remainder remainder-equivalence x (next v f r) (successors v last i rs) s (successor-found v last i m n ok)

    among-more : (xs : List Remainder) (x : Remainder) → T (any (same_remainder x) (successors v last i rs)) → Covers same_remainder xs (successors v last i rs)
        → Covers same_remainder (xs ++ (x ∷ [])) (successors v last i rs)
    among-more xs x g c z t = or-e (any (same_remainder z) xs) (same_remainder z x) (subst T (any_snoc (same_remainder z) xs x) t)
        (c z) (λ u. any_same same_remainder remainder-equivalence z x (successors v last i rs) u g)

    gather-insert : (reached : List Remainder) (found : Option (List Remainder)) (x : Remainder) → T (step_ok v last f r) → T (same_remainder x (next v f r))
        → T (not (overfull x)) → (Once r → Once x) → Gathering reached found → Gathering (reached ++ (next v f r ∷ [])) (inserted room found x)
    unfolding inserted added_to
    gather-insert reached none x ok s w o h = h
    gather-insert reached (some xs) x ok s w o h = by_tests (any (same_counted x) xs) (ltb (length xs) room) (λ t. t) (λ t. t) (λ t. t) (λ t. t)
      where
        same : All Once rs → any (same_counted x) xs ≡ any (same_remainder x) xs
        same p = any-counted x xs (o (of-each Once p m)) (h.tidy p)

        by_tests : (a b : Bool) → (T a → T (any (same_counted x) xs)) → (T (not a) → T (not (any (same_counted x) xs))) → (T b → T (ltb (length xs) room))
            → (T (not b) → T (not (ltb (length xs) room))) → Gathering (reached ++ (next v f r ∷ [])) (cond a (some xs) (cond b (some (xs ++ (x ∷ []))) none))
        by_tests true b t n l g = record {
          among = h.among;
          live = h.live;
          owe = h.owe;
          tidy = h.tidy;
          once = λ p. again same_remainder remainder-equivalence (h.once p) x (next v f r) s (subst T (same p) (t tt));
        }
        by_tests false true t n l g = record {
          among = among-more xs x (goes_on-law x ok s) h.among;
          live = let lt = ltb→lt (length xs) room (l tt) in omega (arith, length-append xs (x ∷ []));
          owe = not_T (any overfull (xs ++ (x ∷ []))) (λ u. or-e (any overfull xs) (overfull x) (subst T (any_snoc overfull xs x) u) (T_not (any overfull xs) h.owe) (T_not (overfull x) w));
          tidy = λ p. each_snoc Once xs (h.tidy p) (o (of-each Once p m));
          once = λ p. fresh same_remainder remainder-equivalence (h.once p) x (next v f r) s (subst (λ (b : Bool). T (not b)) (same p) (n tt));
        }
        by_tests false false t n l g = λ p new. one_more xs (h.once p).each-once h.among (nltb→le (length xs) room (g tt)) x (goes_on-law x ok s)
            (subst (λ (b : Bool). T (not b)) (same p) (n tt))

    pub gather-one : (reached : List Remainder) (found : Option (List Remainder)) {ok : Bool} {a : Advanced} → (T ok → T (step_ok v last f r)) → Steps v f r ok a
        → Gathering reached found → Gathering (reached ++ cond ok (next v f r ∷ []) []) (took room found a)
    gather-one reached found ok broken h = subst (λ (l : List Remainder). Gathering l found) (sym (append-nil reached)) h
    gather-one reached found ok (too_many-law k) h = λ p new. too-full (next v f r) (successor-found v last i m n (ok tt)) (k (of-each Once p m))
    gather-one reached found ok (goes {x = x} s w o) h = gather-insert reached found x (ok tt) s w o h

  -- ---- a fold

  pub gather-fold : {A : Type 0} (g : Option (List Remainder) → A → Option (List Remainder)) (made : A → List Remainder) (P : A → Type 0)
      → ((reached : List Remainder) (found : Option (List Remainder)) (a : A) → P a → Gathering reached found → Gathering (reached ++ made a) (g found a))
      → (reached : List Remainder) (found : Option (List Remainder)) (ys : List A) → All P ys → Gathering reached found → Gathering (reached ++ flat_map made ys) (foldl g found ys)
  gather-fold g made P h reached found [] p k = subst (λ (l : List Remainder). Gathering l found) (sym (append-nil reached)) k
  gather-fold g made P h reached found (y ∷ ys) p k =
      subst (λ (l : List Remainder). Gathering l (foldl g (g found y) ys)) (append_assoc reached (made y) (flat_map made ys))
      (gather-fold g made P h (reached ++ made y) (g found y) ys p.1 (h reached found y p.0 k))
