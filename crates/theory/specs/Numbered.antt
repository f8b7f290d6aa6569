-- Numbered instants (document 02, Q-5): calls of which each that was accepted was handed a record of one list, numbered from 1, and what the run then is. Assumes nothing.
use Rattle.std.specs.Prelude.{List, [], ◌∷◌, ◌++◌, ◌≡◌, ℕ, suc, ◌<◌, length, get_or}
use Rattle.std.proofs.Math.Option.{Option, some}
use Rattle.records.specs.declared.form.Form.TheVariants.{Numbered}
use Rattle.records.specs.Outcome.{Outcome, taken, refused}
use Rattle.records.specs.Sheet.{SheetValue}
use Rattle.records.specs.Instant.{read_instant}
use Rattle.tesl.specs.Run.{Instant}
use Rattle.tesl.specs.Answer.{Answer}
use Rattle.tesl.specs.Machine.{list_after_calls}

-- bytes that are read, for c clocks, as kind 33 with the number k + 1 and the ticks and tags of lift[k], for some k
abbrev pub RecordOf : List Instant → ℕ → List ℕ → Type 0
RecordOf lift c bytes = (k : ℕ) × (k < length lift) × (read_instant c bytes ≡ taken (record { form = Numbered (suc k); cells = get_or lift k [] }))

-- each call that was accepted, as its reply tells, was handed such bytes, with a k of its own; nothing is asked of a refused one
abbrev pub AcceptedFrom : List Instant → ℕ → List (List ℕ) → List (Outcome Answer) → Type 0
AcceptedFrom lift c [] replies = Unit {0}
AcceptedFrom lift c (bytes ∷ calls) [] = Unit {0}
AcceptedFrom lift c (bytes ∷ calls) (refused n ∷ replies) = AcceptedFrom lift c calls replies
AcceptedFrom lift c (bytes ∷ calls) (taken a ∷ replies) = RecordOf lift c bytes × AcceptedFrom lift c calls replies

-- a beginning of `lift`, which may be none or the whole of it
abbrev pub IsBeginning : List Instant → List Instant → Type 0
IsBeginning run lift = (rest : List Instant) × (run ++ rest ≡ lift)

-- the run, which is the machine's list, is a beginning of `lift`, and there is a last monitor that follows it
pub record RunsAlong {M : Type 0} (Follows : SheetValue → List Instant → M → Type 0) (lift : List Instant) (s : SheetValue) (calls : List (List ℕ)) (last : Option M) : Type 0 where
  pub beginning : IsBeginning (list_after_calls s [] calls) lift
  pub follows : (m : M) × (last ≡ some m) × Follows s (list_after_calls s [] calls) m
