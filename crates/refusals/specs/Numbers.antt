-- 'If an answer is an enum, a definition states this paper's number and values for each of its cases': the number of each refusal, and of an answer
-- that may be one. Assumes nothing.
use Rattle.std.specs.Prelude.{ℕ, Result, Ok, Err}
use Rattle.refusals.specs.declared.Refusal.{Refusal}
use Rattle.refusals.specs.declared.Refusal.TheVariants.{BadString, BadId, BadVersion, BadParameters, BadSalt, BadOutput, TooManyPieces, UnknownId, VersionNotPermitted, WrongNames, WrongNumber, WrongBytes, WrittenOut, WrongSalt, WrongOutput, OutputWithoutSalt, NoRoom, LineTooLong, BadName, NoSpelling}

abbrev pub number_of : Refusal → ℕ
number_of BadString = 1
number_of BadId = 2
number_of BadVersion = 3
number_of BadParameters = 4
number_of BadSalt = 5
number_of BadOutput = 6
number_of TooManyPieces = 7
number_of UnknownId = 8
number_of VersionNotPermitted = 9
number_of WrongNames = 10
number_of WrongNumber = 11
number_of WrongBytes = 12
number_of WrittenOut = 13
number_of WrongSalt = 14
number_of WrongOutput = 15
number_of OutputWithoutSalt = 16
number_of NoRoom = 17
number_of LineTooLong = 18
number_of BadName = 19
number_of NoSpelling = 24

-- 0 is acceptance
abbrev pub number : {A : Type 0} → Result A Refusal → ℕ
number (Ok a) = 0
number (Err r) = number_of r
