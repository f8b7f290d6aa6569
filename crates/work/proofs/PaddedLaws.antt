-- Filled instants that are alike at each clock are one to every line; lists with unused places read and fill as those without. Assumes nothing.
use mathlib.Core.Bool.{Bool, true, false, cond, ◌&&◌}
use mathlib.Core.List.{List, [], ◌∷◌, ◌++◌, map}
use mathlib.Core.Option.{some}
use mathlib.Core.Path.{◌≡◌, refl, sym, ap, ap₂, ◌∙◌, fun_ext}
use Prim.Native.Nat.{ℕ, zero, suc, ◌+◌, ◌-◌, ◌<◌, ◌≤◌}
use native.Mathlib.Omega.{arith}
use lib.Dec.{T, ltb, le→leb}
use lib.IntN.{ℤ, pos, negsuc, ◌+ℤ◌}
use lib.ListN.{length, get_or, set, replicate, length-append}
use lib.Seq.{append_snoc}
use lib.Signed.{le_z}
use Rattle.records.specs.declared.instant.Tick.{Tick}
use Rattle.records.specs.declared.instant.Tick.TheVariants.{Idle, Ticks, Unseen}
use Rattle.records.specs.declared.line.Line.{Line}
use Rattle.records.specs.declared.line.Line.TheVariants.{Sporadic, Relation, Implies, Excludes, Delayed, Weakly, Strictly, Kills, Counted}
use Rattle.records.specs.Lists.{filled}
use Rattle.records.proofs.Lists.{filled-set}
use Rattle.tesl.specs.Lists.{all, any, filter, flat_map, table}
use Rattle.tesl.specs.Run.{Filled, ticks_at, tag_at}
use Rattle.tesl.specs.Fits.{Obligation, owed_from, not_late, Countdown, counted_from, left_by}
use Rattle.tesl.specs.Remainder.{stops}
use Rattle.tesl.proofs.FormulaLists.{all_append}
use Rattle.tesl.proofs.Tests.{T→≡}
use Rattle.theory.specs.Step.{line_ok, overlap, lines_ok, next_lead, next_leads, none_missed, begun_countdowns}
use Rattle.theory.proofs.Fill.{foldl, fill_fold}
use Rattle.work.specs.Owed.{left}
use Rattle.work.specs.Work.{fill_from}

-- ---- places

module _ {A : Type 0} (d : A) where
  -- what is read past the end stands there
  pub filled-reads : (m : ℕ) (xs : List A) (k : ℕ) → get_or (xs ++ replicate m d) k d ≡ get_or xs k d
  filled-reads zero [] k = refl
  filled-reads (suc m) [] zero = refl
  filled-reads (suc m) [] (suc k) = filled-reads m [] k
  filled-reads m (x ∷ xs) zero = refl
  filled-reads m (x ∷ xs) (suc k) = filled-reads m xs k

  -- one more of what stands there
  pub filled_more : (n : ℕ) (xs : List A) → length xs < n → filled n d xs ≡ filled n d (xs ++ (d ∷ []))
  filled_more n xs h =
      let k : n - length xs ≡ suc (n - (length xs + 1)) = omega arith in
      let l : length (xs ++ (d ∷ [])) ≡ length xs + 1 = length-append xs (d ∷ []) in
      rw (k, l) (sym (append_snoc xs d _))

  -- a list is the table of what it reads
  pub table-reads : (xs : List A) → table (length xs) (λ k. get_or xs k d) ≡ xs
  table-reads [] = refl
  table-reads (x ∷ xs) = ap (λ (l : List A). x ∷ l) (table-reads xs)

-- ---- the clocks left, filled in the eight places

-- the places once clock k, after those done, is settled as b
abbrev settled_at : ℕ → List Bool → Bool → List Bool
settled_at k done b = cond b (set (filled 8 false done) k true) (filled 8 false done)

settled_at-law : (k : ℕ) (done : List Bool) (b : Bool) → length done ≡ k → k < 8 → settled_at k done b ≡ filled 8 false (done ++ (b ∷ []))
settled_at-law k done true e h = filled-set 8 k false true done e h
settled_at-law k done false e h = filled_more false 8 done (omega arith)

module _ {R : Type 0} (g : R → List Bool → R) where
  abbrev at : R → List Bool → R
  at q b = g q (filled 8 false b)

  abbrev Fills : List Tick → Type 0
  Fills left = (k : ℕ) (done : List Bool) (r : R) → length done ≡ k → k + length left ≤ 8 → fill_from g k left (filled 8 false done) r ≡ fill_fold at done left r

  settles : (b : Bool) (left : List Tick) → Fills left → (k : ℕ) (done : List Bool) (r : R) → length done ≡ k → k + suc (length left) ≤ 8
      → fill_from g (k + 1) left (settled_at k done b) r ≡ fill_fold at (done ++ (b ∷ [])) left r
  settles b left rest k done r e h =
      ap (λ (ticks : List Bool). fill_from g (k + 1) left ticks r) (settled_at-law k done b e (omega arith))
      ∙ rest (k + 1) (done ++ (b ∷ [])) r (length-append done (b ∷ []) ∙ ap (λ (n : ℕ). n + 1) e) (omega arith)

  pub fills : (left : List Tick) → Fills left
  fills [] k done r e h = refl
  fills (Idle ∷ left) k done r e h = settles false left (fills left) k done r e h
  fills (Ticks ∷ left) k done r e h = settles true left (fills left) k done r e h
  fills (Unseen ∷ left) k done r e h =
      ap (fill_from g (k + 1) left (settled_at k done true)) (settles false left (fills left) k done r e h)
      ∙ settles true left (fills left) k done (fill_fold at (done ++ (false ∷ [])) left r) e h

pub foldl-map : {R A B : Type 0} (g : R → B → R) (f : A → B) (r : R) (xs : List A) → foldl g r (map f xs) ≡ foldl (λ (q : R) (x : A). g q (f x)) r xs
foldl-map g f r [] = refl
foldl-map g f r (x ∷ xs) = foldl-map g f (g r (f x)) xs

-- ---- a line begins nothing that is late

due-later : (z : ℤ) (d : ℕ) → T (le_z z (z +ℤ pos d))
due-later (pos n) d = le→leb n (n + d) (omega arith)
due-later (negsuc n) d =
    elim (ltb d (suc n)) as (λ c. T (le_z (negsuc n) (cond c (negsuc (suc n - suc d)) (pos (d - suc n)))))
    [ true ↦ le→leb (suc n - suc d) n (omega arith) | false ↦ tt ]

begun-later : (most : ℤ) (f : Filled) (l : Line) → not_late (some f.tags) (owed_from most f l) ≡ true
begun-later most f (Delayed A B D d) = by-test (ticks_at f A && le_z (tag_at f B +ℤ pos d) most)
  where
    by-test : (t : Bool) → not_late (some f.tags) (cond t (record { clock = D; due = tag_at f B +ℤ pos d; on = B } ∷ []) []) ≡ true
    by-test true = ap (λ (b : Bool). b && true) (T→≡ (le_z (tag_at f B) (tag_at f B +ℤ pos d)) (due-later (tag_at f B) d))
    by-test false = refl
begun-later most f (Sporadic A B t) = refl
begun-later most f (Relation A B p q) = refl
begun-later most f (Implies A B) = refl
begun-later most f (Excludes A B) = refl
begun-later most f (Weakly A B) = refl
begun-later most f (Strictly A B) = refl
begun-later most f (Kills A B) = refl
begun-later most f (Counted A B D n) = refl

pub all-begun-later : (most : ℤ) (f : Filled) (ls : List Line) → not_late (some f.tags) (flat_map (owed_from most f) ls) ≡ true
all-begun-later most f [] = refl
all-begun-later most f (l ∷ ls) = all_append _ (owed_from most f l) (flat_map (owed_from most f) ls) ∙ ap₂ ◌&&◌ (begun-later most f l) (all-begun-later most f ls)

-- ---- two filled instants, alike at each clock

pub record Alike (f g : Filled) : Type 0 where
  pub ticks : (k : ℕ) → ticks_at f k ≡ ticks_at g k
  pub tags : (k : ℕ) → tag_at f k ≡ tag_at g k

-- the clocks of two lists alike at each
pub same-overlap : (xs ys zs : List Bool) → ((k : ℕ) → get_or xs k false ≡ get_or ys k false) → overlap xs zs ≡ overlap ys zs
same-overlap [] [] zs e = refl
same-overlap [] (y ∷ ys) [] e = refl
same-overlap [] (y ∷ ys) (z ∷ zs) e = rw (sym (e 0)) (same-overlap [] ys zs (λ k. e (suc k)))
same-overlap (x ∷ xs) [] [] e = refl
same-overlap (x ∷ xs) [] (z ∷ zs) e = rw (e 0) (same-overlap xs [] zs (λ k. e (suc k)))
same-overlap (x ∷ xs) (y ∷ ys) [] e = refl
same-overlap (x ∷ xs) (y ∷ ys) (z ∷ zs) e = rw (e 0, same-overlap xs ys zs (λ k. e (suc k)))

-- what a line says of both
record Same (f g : Filled) (l : Line) : Type 0 where
  holds : (lead : ℕ) → line_ok f l lead ≡ line_ok g l lead
  leads : (lead : ℕ) → next_lead f l lead ≡ next_lead g l lead
  begins : (most : ℤ) → owed_from most f l ≡ owed_from most g l
  counts : counted_from f l ≡ counted_from g l
  stop : (k : ℕ) → stops (f ∷ []) k l ≡ stops (g ∷ []) k l

module _ {f g : Filled} (a : Alike f g) where
  same : (l : Line) → Same f g l
  same (Relation A B p q) = record { holds = λ n. rw (a.tags A, a.tags B); leads = λ n. refl; begins = λ most. refl; counts = refl; stop = λ k. refl }
  same (Implies A B) = record { holds = λ n. rw (a.ticks A, a.ticks B); leads = λ n. refl; begins = λ most. refl; counts = refl; stop = λ k. refl }
  same (Excludes A B) = record { holds = λ n. rw (a.ticks A, a.ticks B); leads = λ n. refl; begins = λ most. refl; counts = refl; stop = λ k. refl }
  same (Weakly A B) = record { holds = λ n. rw (a.ticks A, a.ticks B); leads = λ n. rw (a.ticks A, a.ticks B); begins = λ most. refl; counts = refl; stop = λ k. refl }
  same (Strictly A B) = record { holds = λ n. rw (a.ticks B); leads = λ n. rw (a.ticks A, a.ticks B); begins = λ most. refl; counts = refl; stop = λ k. refl }
  same (Kills A B) = record { holds = λ n. rw (a.ticks A, a.ticks B); leads = λ n. refl; begins = λ most. refl; counts = refl; stop = λ k. rw (a.ticks A) }
  same (Sporadic A B t) = record { holds = λ n. refl; leads = λ n. refl; begins = λ most. refl; counts = refl; stop = λ k. refl }
  same (Delayed A B D d) = record { holds = λ n. refl; leads = λ n. refl; begins = λ most. rw (a.ticks A, a.tags B); counts = refl; stop = λ k. refl }
  same (Counted A B D n) = record { holds = λ k. refl; leads = λ k. refl; begins = λ most. refl; counts = rw (a.ticks A); stop = λ k. refl }

  pub same_lines : (ls : List Line) (leads : List ℕ) → lines_ok (line_ok f) ls leads ≡ lines_ok (line_ok g) ls leads
  same_lines ls leads = ap (λ (ok : Line → ℕ → Bool). lines_ok ok ls leads) (fun_ext (λ l. fun_ext (same l).holds))

  pub same-leads : (ls : List Line) (leads : List ℕ) → next_leads (next_lead f) ls leads ≡ next_leads (next_lead g) ls leads
  same-leads ls leads = ap (λ (after : Line → ℕ → ℕ). next_leads after ls leads) (fun_ext (λ l. fun_ext (same l).leads))

  pub same-begun : (most : ℤ) (ls : List Line) → flat_map (owed_from most f) ls ≡ flat_map (owed_from most g) ls
  same-begun most ls = ap (λ (begun : Line → List Obligation). flat_map begun ls) (fun_ext (λ l. (same l).begins most))

  pub same-counted : (ls : List Line) → begun_countdowns ls f ≡ begun_countdowns ls g
  same-counted ls = ap (λ (begun : Line → List Countdown). flat_map begun ls) (fun_ext (λ l. ap (left_by []) (same l).counts))

  pub same-stops : (k : ℕ) (ls : List Line) → any (stops (f ∷ []) k) ls ≡ any (stops (g ∷ []) k) ls
  same-stops k ls = ap (λ (p : Line → Bool). any p ls) (fun_ext (λ l. (same l).stop k))

  pub same_left-law : (os : List Obligation) → left f os ≡ left g os
  same_left-law os = ap (λ (p : Obligation → Bool). filter p os) (fun_ext (λ (o : Obligation). rw (a.ticks o.clock, a.tags o.on)))

  pub same-late : (os : List Obligation) → not_late (some f.tags) os ≡ not_late (some g.tags) os
  same-late os = ap (λ (p : Obligation → Bool). all p os) (fun_ext (λ (o : Obligation). ap (λ (x : ℤ). le_z x o.due) (a.tags o.on)))

  pub same-counting : (cs : List Countdown) → left_by (f ∷ []) cs ≡ left_by (g ∷ []) cs
  same-counting cs = ap (λ (h : Countdown → List Countdown). flat_map h cs) (fun_ext (λ (c : Countdown). rw (a.ticks c.on)))

  pub same-missed : (cs : List Countdown) → none_missed f cs ≡ none_missed g cs
  same-missed cs = ap (λ (p : Countdown → Bool). all p cs) (fun_ext (λ (c : Countdown). rw (a.ticks c.on, a.ticks c.clock)))
