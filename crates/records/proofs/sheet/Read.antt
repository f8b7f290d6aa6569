-- What a match on the answer of reading a sheet tells of its outcome, whichever reader it was. Assumes nothing.
use mathlib.Core.Path.{◌≡◌, sym, ap, ◌∙◌}
use Rattle.std.specs.Prelude.{Result, Ok, Err}
use Rattle.records.specs.declared.refusal.Refusal.{Refusal}
use Rattle.records.specs.declared.sheet.Sheet.{Sheet}
use Rattle.records.specs.Outcome.{Outcome, taken, refused, outcome_of}
use Rattle.records.specs.Refusal.{refusal_number}
use Rattle.records.specs.Sheet.{SheetValue, sheet_value, sheet_of, sheet_read}
use Rattle.records.proofs.Lists.{kept-refused, kept-taken}
use Rattle.records.proofs.sheet.RoundTrip.{sheet_of-value}

module _ (o : Outcome SheetValue) (x : Result Sheet Refusal) (e : outcome_of x ≡ sheet_read o) where
  pub sheet-refused : {r : Refusal} → x ≡ Err r → o ≡ refused (refusal_number r)
  sheet-refused a = kept-refused sheet_of o (sym (ap outcome_of a) ∙ e)

  -- the value, and its struct
  pub sheet-done_as : {s : Sheet} → x ≡ Ok s → (v : SheetValue) × (o ≡ taken v) × (s ≡ sheet_of v)
  sheet-done_as a = kept-taken sheet_of o (sym (ap outcome_of a) ∙ e)

  pub sheet-done : {s : Sheet} → x ≡ Ok s → o ≡ taken (sheet_value s)
  sheet-done a = let r = sheet-done_as a in rw (r.2, sheet_of-value r.0) r.1
