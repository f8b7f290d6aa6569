-- What a filled instant leaves of an obligation or of a countdown, as they are stored, and of a set of a row.
use Rattle.std.specs.Prelude.{Bool, true, cond, List, [], ◌∷◌, ◌≡◌, ℕ, ◌-◌, ◌≤◌, eqb}
use Rattle.std.proofs.Math.Option.{Option, none, some}
use Rattle.std.specs.Int.Signed.{le_z}
use Rattle.tesl.specs.Run.{Filled, tag_in}
use Rattle.tesl.specs.Fits.{meets}
use Rattle.work.specs.Questions.{tick_in}
use Rattle.remainders.specs.declared.obligation.Obligation as code
use Rattle.step.specs.declared.left.Left.{Left}
use Rattle.step.specs.declared.left.Left.TheVariants.{Done, Unfit, Still}
use Rattle.remainders.specs.View.{obligation_of}
use Rattle.remainders.specs.Rows.{row_count, row_set, provided, PartStays}

-- it is met, late, or still owed
abbrev pub left_owed : Filled → code.Obligation → Left
left_owed f o = cond (meets f (obligation_of o)) Done (cond (le_z (tag_in f.tags o.on) (obligation_of o).due) (Still o) Unfit)

-- each tick of its on-clock is one fewer wanted, and the last asks for its clock's; none that wants no tick is left
abbrev pub one_fewer : code.Obligation → code.Obligation
one_fewer o = record { clock = o.clock; on = o.on; number = o.number - 1 }

abbrev pub left_counting : List Bool → code.Obligation → Left
left_counting ticks o =
    cond (eqb o.number 0) Done
    (cond (tick_in ticks o.on) (cond (eqb o.number 1) (cond (tick_in ticks o.clock) Done Unfit) (Still (one_fewer o))) (Still o))

-- in the set of a part
abbrev pub left_in : ℕ → Filled → code.Obligation → Left
left_in part f o = cond (eqb part 0) (left_owed f o) (left_counting f.ticks o)

-- one more, if there are any
abbrev pub consed : {A : Type 0} → A → Option (List A) → Option (List A)
consed x none = none
consed x (some xs) = some (x ∷ xs)

-- what is left of one and of the others; `none` where the filling doesn't fit by one of them
abbrev pub keeps : Left → Option (List code.Obligation) → Option (List code.Obligation)
keeps Done q = q
keeps Unfit q = none
keeps (Still o) q = consed o q

abbrev pub each_left : (code.Obligation → Left) → List code.Obligation → Option (List code.Obligation)
each_left g [] = some []
each_left g (o ∷ os) = keeps (g o) (each_left g os)

-- a part of row `to` has what an instant leaves of that part of row i, unless the filling doesn't fit by it
pub record LeftRow (f : Filled) (part i to : ℕ) (r : Bool) (a b : List ℕ) : Type 0 where
  pub stays : PartStays to part a b
  pub set : provided r (row_set b to part) ≡ each_left (left_in part f) (row_set a i part)
  pub few : r ≡ true → row_count b to part ≤ 8
