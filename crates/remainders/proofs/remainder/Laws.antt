-- What past the end of an array of obligations reads. Assumes nothing.
use Rattle.remainders.specs.declared.obligation.Obligation as code

abbrev pub blank : code.Obligation
blank = record { clock = 0; on = 0; number = 0 }
