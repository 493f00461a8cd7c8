-- No refusal has the number of acceptance.
-- Assumes nothing.
use Rattle.std.proofs.Common.{◌<◌, arith}
use Rattle.refusals.specs.declared.Refusal.{Refusal}
use Rattle.refusals.specs.declared.Refusal.TheVariants.{BadString, BadId, BadVersion, BadParameters, BadSalt, BadOutput, TooManyPieces, UnknownId, VersionNotPermitted, WrongNames, WrongNumber, WrongBytes, WrittenOut, WrongSalt, WrongOutput, OutputWithoutSalt, NoRoom, LineTooLong, BadName, NoSpelling}
use Rattle.refusals.specs.Numbers.{number_of}

pub number_pos : (r : Refusal) → 0 < number_of r
number_pos BadString = omega arith
number_pos BadId = omega arith
number_pos BadVersion = omega arith
number_pos BadParameters = omega arith
number_pos BadSalt = omega arith
number_pos BadOutput = omega arith
number_pos TooManyPieces = omega arith
number_pos UnknownId = omega arith
number_pos VersionNotPermitted = omega arith
number_pos WrongNames = omega arith
number_pos WrongNumber = omega arith
number_pos WrongBytes = omega arith
number_pos WrittenOut = omega arith
number_pos WrongSalt = omega arith
number_pos WrongOutput = omega arith
number_pos OutputWithoutSalt = omega arith
number_pos NoRoom = omega arith
number_pos LineTooLong = omega arith
number_pos BadName = omega arith
number_pos NoSpelling = omega arith
