use Rattle.std.proofs.Common.{◌≡◌, ◌^◌, ◌<◌, take}
use Rattle.cert_text.specs.Digits.{value_of}
use Rattle.cert_text.proofs.digits.number.Given as goal

-- the number of the digits so far
abbrev pub invariant-loop-digit : goal.invariant-loop-digit
invariant-loop-digit l = record {
  value : l.number ≡ value_of l.base (take l.digit-index l.digits);
  small : l.number < 16 ^ l.digit-index;
}
