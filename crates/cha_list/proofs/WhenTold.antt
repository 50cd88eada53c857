-- What is said of an option whose variant is told.
use Rattle.std.proofs.Common.{◌≡◌, Option, Some, None, subst}
use Rattle.std.specs.Option.{IfSome, IfNone}
use Rattle.std.proofs.lemmas.Option.{same_Some}

pub when_none : {X : Type 0} (o : Option X) (P : Type 0) → o ≡ None → IfNone o P → P
when_none (Some x) P none h = cc
when_none None P none h = h

pub when_some : {X : Type 0} (o : Option X) (P : X → Type 0) (x : X) → o ≡ Some x → IfSome o P → P x
when_some None P x some h = cc
when_some (Some y) P x some h = subst P (same_Some y x some) h
