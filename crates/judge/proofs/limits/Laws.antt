-- An obligation within its limits as it is stored; a lead within its limit: of one line, and of all lines with the leads listed as the code reads them. Assumes nothing.
use mathlib.Core.Bool.{Bool, true, false, ◌&&◌, and-false}
use mathlib.Core.List.{List, [], ◌∷◌, map}
use mathlib.Core.Path.{◌≡◌, refl, sym, ap, ap₂, ◌∙◌}
use Prim.Native.Nat.{ℕ, zero, suc, ◌+◌, ◌≤◌}
use lib.Dec.{leb, ltb}
use lib.ListN.{length, take}
use Rattle.records.specs.declared.line.Line.{Line}
use Rattle.records.specs.declared.sheet.Sheet.{Sheet}
use Rattle.records.specs.Lists.{listed_from}
use Rattle.records.specs.Sheet.{SheetValue, line_at, sheet_value}
use Rattle.records.proofs.Lists.{listed-take, length-listed}
use Rattle.std.specs.List.{list_all, range_with_len}
use Rattle.tesl.specs.Lists.{all}
use Rattle.theory.specs.Step.{lines_ok, next_leads}
use Rattle.theory.specs.Limits.{obligation_ok, least_wanted, most_wanted, countdown_ok, within_limits}
use Rattle.work.specs.View.{in_use}
use Rattle.work.specs.Lines.{lead_in}
use Rattle.tesl.specs.Fits.{most_tag}
use Rattle.remainders.specs.declared.obligation.Obligation as code
use Rattle.remainders.specs.declared.remainder.Remainder as arrays
use Rattle.remainders.specs.Word.{due_of, due_number}
use Rattle.remainders.specs.View.{obligation_of, countdown_of, owed_of, countdowns_of, view_of}
use Rattle.judge.specs.Limits.{stored_within, least_due, most_due, set_within, remainder_within}
use Rattle.remainders.proofs.obligation.Laws.{due-le}

-- what a search of a list answers
pub all-listed : {A : Type 0} (p : A → Bool) (xs : List A) → list_all p xs ≡ all p xs
all-listed p [] = refl
all-listed p (x ∷ xs) = ap (λ (b : Bool). p x && b) (all-listed p xs)

-- ---- obligations
module _ (c : ℕ) where
  pub stored-within : (o : code.Obligation) → stored_within c least_due most_due o ≡ obligation_ok most_tag c (obligation_of o)
  unfolding stored_within due_of due_number least_due most_due
  stored-within o = ap (λ (b : Bool). (ltb o.clock c && ltb o.on c) && b) (ap₂ ◌&&◌ (sym (due-le least_due o.number)) (sym (due-le o.number most_due)))

  pub all-stored : (os : List code.Obligation) → all (stored_within c least_due most_due) os ≡ all (obligation_ok most_tag c) (map obligation_of os)
  all-stored [] = refl
  all-stored (o ∷ os) = ap₂ ◌&&◌ (stored-within o) (all-stored os)

  all-counted : (os : List code.Obligation) → all (stored_within c least_wanted most_wanted) os ≡ all (countdown_ok c) (map countdown_of os)
  unfolding stored_within
  all-counted [] = refl
  all-counted (o ∷ os) = ap (λ (b : Bool). stored_within c least_wanted most_wanted o && b) (all-counted os)

  -- a remainder: its two sets and its leads
  pub by-sets : (v : SheetValue) → v.clocks ≡ c → (m : ℕ) (r : arrays.Remainder) → remainder_within v m r
      ≡ (set_within c least_due most_due r.owed (take r.owed r.obligations)
      && (set_within c least_wanted most_wanted r.counting (take r.counting r.countdowns) && all (λ (n : ℕ). leb n m) (view_of v r).leads))
  unfolding remainder_within within_limits set_within
  by-sets v e m r =
      regroup (leb r.owed 8) (leb r.counting 8) (all (obligation_ok most_tag v.clocks) (owed_of r)) (all (countdown_ok v.clocks) (countdowns_of r)) (all (λ (n : ℕ). leb n m) (view_of v r).leads)
      ∙ rw (e, all-stored (take r.owed r.obligations), all-counted (take r.counting r.countdowns)) refl
    where
      -- how many, and what each is, set by set
      regroup : (a b c d e : Bool) → ((a && b) && (c && (d && e))) ≡ ((a && c) && ((b && d) && e))
      regroup false b c d e = refl
      regroup true false c d e = sym (and-false c)
      regroup true true c d e = refl

-- one test after the other
module _ (v : SheetValue) (m : ℕ) (r : arrays.Remainder) {b : Bool} (owed : b ≡ set_within v.clocks least_due most_due r.owed (take r.owed r.obligations)) where
  pub not-owed : b ≡ false → false ≡ remainder_within v m r
  not-owed f = sym (by-sets v.clocks v refl m r ∙ rw (sym owed, f))

  module _ (t : b ≡ true) {d : Bool} (counted : d ≡ set_within v.clocks least_wanted most_wanted r.counting (take r.counting r.countdowns)) where
    pub not-counted : d ≡ false → false ≡ remainder_within v m r
    not-counted f = sym (by-sets v.clocks v refl m r ∙ rw (sym owed, t, sym counted, f))

    pub by-leads : {l : Bool} → d ≡ true → l ≡ all (λ (n : ℕ). leb n m) (view_of v r).leads → l ≡ remainder_within v m r
    by-leads f g = g ∙ sym (by-sets v.clocks v refl m r ∙ rw (sym owed, t, sym counted, f))

-- ---- leads

-- the line's lead is within m
abbrev pub lead_ok : ℕ → Line → ℕ → Bool
lead_ok m l lead = leb (in_use l lead) m

module _ (m : ℕ) where
  as-ok : (ls : List Line) (leads : List ℕ) → all (λ (n : ℕ). leb n m) (next_leads in_use ls leads) ≡ lines_ok (lead_ok m) ls (take (length ls) leads)
  as-ok [] leads = refl
  as-ok (l ∷ ls) [] = ap (λ (b : Bool). lead_ok m l 0 && b) (as-ok ls [] ∙ none ls)
    where
      none : (ls : List Line) → lines_ok (lead_ok m) ls (take (length ls) []) ≡ lines_ok (lead_ok m) ls []
      none [] = refl
      none (l ∷ ls) = refl
  as-ok (l ∷ ls) (n ∷ leads) = ap (λ (b : Bool). lead_ok m l n && b) (as-ok ls leads)

  -- asked place by place
  asked : (f : ℕ → Line) (g : ℕ → ℕ) (i n : ℕ) → list_all (λ (k : ℕ). lead_ok m (f k) (g k)) (range_with_len i n) ≡ lines_ok (lead_ok m) (listed_from f i n) (listed_from g i n)
  unfolding listed_from
  asked f g i zero = refl
  asked f g i (suc n) = ap (λ (b : Bool). lead_ok m (f i) (g i) && b) (asked f g (i + 1) n)

  pub leads-asked : (s : Sheet) (leads : List ℕ) → s.count ≤ length leads → list_all (λ (k : ℕ). lead_ok m (line_at s k) (lead_in leads k)) (range_with_len 0 s.count) ≡ all (λ (n : ℕ). leb n m) (next_leads in_use (sheet_value s).lines leads)
  leads-asked s leads h =
      asked (line_at s) (lead_in leads) 0 s.count
      ∙ sym (as-ok (sheet_value s).lines leads ∙ rw (length-listed (line_at s) s.count, sym (listed-take 0 (lead_in leads) s.count leads h (λ i k. refl))))
