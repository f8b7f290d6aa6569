-- The parts of a sheet: what a question asks of the lines of one part is what it asks of all lines, where the other lines don't matter to it. Assumes nothing.
use mathlib.Core.Bool.{Bool, true, false, ◌&&◌, true≢false}
use mathlib.Core.List.{List, [], ◌∷◌, ◌++◌}
use mathlib.Core.Path.{◌≡◌, refl}
use lib.IntN.{ℤ}
use Rattle.records.specs.declared.line.Line.{Line}
use Rattle.records.specs.declared.line.Line.TheVariants.{Sporadic, Relation, Implies, Excludes, Delayed, Weakly, Strictly, Kills, Counted}
use Rattle.tesl.specs.Lists.{all, filter, flat_map}
use Rattle.tesl.specs.Run.{Filled}
use Rattle.tesl.specs.Fits.{owed_from}
use Rattle.theory.specs.Step.{started_by, begun_countdowns}
use Rattle.work.specs.Questions.{tags_hold, ticks_hold}
use Rattle.work.specs.Parts.{is_relation, is_rule, is_delay, is_counted}
use Rattle.work.specs.Rules.{allowed}

module _ (part : Line → Bool) where
  all-part : (p : Line → Bool) → ((l : Line) → part l ≡ false → p l ≡ true) → (ls : List Line) → all p (filter part ls) ≡ all p ls
  all-part p free [] = refl
  all-part p free (l ∷ ls) = by_part (all-part p free ls) (part l) refl
    where
      by_part : all p (filter part ls) ≡ all p ls → (b : Bool) → part l ≡ b → all p (filter part (l ∷ ls)) ≡ (p l && all p ls)
      by_part ih true e = rw (e, ih)
      by_part ih false e = rw (e, free l e) ih

  each_part : {A : Type 0} (g : Line → List A) → ((l : Line) → part l ≡ false → g l ≡ []) → (ls : List Line) → flat_map g (filter part ls) ≡ flat_map g ls
  each_part g free [] = refl
  each_part g free (l ∷ ls) = by_part (each_part g free ls) (part l) refl
    where
      by_part : flat_map g (filter part ls) ≡ flat_map g ls → (b : Bool) → part l ≡ b → flat_map g (filter part (l ∷ ls)) ≡ (g l ++ flat_map g ls)
      by_part ih true e = rw (e, ih)
      by_part ih false e = rw (e, free l e) ih

free-tags : (tags : List ℤ) (l : Line) → is_relation l ≡ false → tags_hold tags l ≡ true
free-tags tags (Sporadic A B t) h = refl
free-tags tags (Relation A B p q) h = absurd (true≢false h)
free-tags tags (Implies A B) h = refl
free-tags tags (Excludes A B) h = refl
free-tags tags (Delayed A B D d) h = refl
free-tags tags (Weakly A B) h = refl
free-tags tags (Strictly A B) h = refl
free-tags tags (Kills A B) h = refl
free-tags tags (Counted A B D n) h = refl

-- only relations ask of the tags
pub relations-enough : (tags : List ℤ) (ls : List Line) → all (tags_hold tags) (filter is_relation ls) ≡ all (tags_hold tags) ls
relations-enough tags ls = all-part is_relation (tags_hold tags) (free-tags tags) ls

free-ticks : (ticks : List Bool) (l : Line) → is_rule l ≡ false → ticks_hold ticks l ≡ true
free-ticks ticks (Sporadic A B t) h = refl
free-ticks ticks (Relation A B p q) h = refl
free-ticks ticks (Implies A B) h = absurd (true≢false h)
free-ticks ticks (Excludes A B) h = absurd (true≢false h)
free-ticks ticks (Delayed A B D d) h = refl
free-ticks ticks (Weakly A B) h = refl
free-ticks ticks (Strictly A B) h = refl
free-ticks ticks (Kills A B) h = absurd (true≢false h)
free-ticks ticks (Counted A B D n) h = refl

-- only rules ask of the ticks
pub rules-enough : (ls : List Line) (ticks : List Bool) → allowed (filter is_rule ls) ticks ≡ all (ticks_hold ticks) ls
rules-enough ls ticks = all-part is_rule (ticks_hold ticks) (free-ticks ticks) ls

free-begins : (most : ℤ) (f : Filled) (l : Line) → is_delay l ≡ false → owed_from most f l ≡ []
free-begins most f (Sporadic A B t) h = refl
free-begins most f (Relation A B p q) h = refl
free-begins most f (Implies A B) h = refl
free-begins most f (Excludes A B) h = refl
free-begins most f (Delayed A B D d) h = absurd (true≢false h)
free-begins most f (Weakly A B) h = refl
free-begins most f (Strictly A B) h = refl
free-begins most f (Kills A B) h = refl
free-begins most f (Counted A B D n) h = refl

-- only delay lines begin obligations
pub delays-enough : (most : ℤ) (f : Filled) (ls : List Line) → flat_map (owed_from most f) (filter is_delay ls) ≡ flat_map (owed_from most f) ls
delays-enough most f ls = each_part is_delay (owed_from most f) (free-begins most f) ls

free-starts : (f : Filled) (l : Line) → is_counted l ≡ false → started_by f l ≡ []
free-starts f (Counted A B D n) h = absurd (true≢false h)
free-starts f (Sporadic A B t) h = refl
free-starts f (Relation A B p q) h = refl
free-starts f (Implies A B) h = refl
free-starts f (Excludes A B) h = refl
free-starts f (Delayed A B D d) h = refl
free-starts f (Weakly A B) h = refl
free-starts f (Strictly A B) h = refl
free-starts f (Kills A B) h = refl

-- only counted lines begin countdowns
pub counted-enough : (f : Filled) (ls : List Line) → begun_countdowns (filter is_counted ls) f ≡ begun_countdowns ls f
counted-enough f ls = each_part is_counted (started_by f) (free-starts f) ls
