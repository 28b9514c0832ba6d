-- The numbers of the refusals.
use Rattle.std.specs.Prelude.{ℕ}
use Rattle.book.specs.declared.refusal.Refusal.{Refusal}
use Rattle.book.specs.declared.refusal.Refusal.TheVariants.{BadSize, ShortList, Void, RunOpen, NoSuchExchange, LengthTooGreat, NoPlace, NoSuchTrunk, OtherTicket, NoRunOpen, RunOver, RunNotOver, NoFinishedRun, RunIsLoop, RunIsSettled, Unreached, NoRoom}

-- each refusal has its number
abbrev pub number_of : Refusal → ℕ
number_of BadSize = 1
number_of ShortList = 2
number_of Void = 3
number_of RunOpen = 4
number_of NoSuchExchange = 5
number_of LengthTooGreat = 6
number_of NoPlace = 7
number_of NoSuchTrunk = 8
number_of OtherTicket = 9
number_of NoRunOpen = 10
number_of RunOver = 11
number_of RunNotOver = 12
number_of NoFinishedRun = 13
number_of RunIsLoop = 14
number_of RunIsSettled = 15
number_of Unreached = 16
number_of NoRoom = 17
