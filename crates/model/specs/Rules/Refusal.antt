-- The number of a refusal.
use Rattle.std.specs.Prelude.{ℕ}
use Rattle.model.specs.declared.refusals.Refusal.{Refusal}
use Rattle.model.specs.declared.refusals.Refusal.TheVariants as Refusal

abbrev pub number_of : Refusal → ℕ
number_of Refusal.TextTooLong = 1
number_of Refusal.ProgramEndsEarly = 2
number_of Refusal.NoSuchCommand = 3
number_of Refusal.OverABound = 4
number_of Refusal.OperandOutOfRange = 5
number_of Refusal.BytesAfterEnd = 6
number_of Refusal.UndeclaredSignal = 7
number_of Refusal.PeriodRuleBroken = 8
number_of Refusal.HypercycleTooLong = 9
number_of Refusal.LinkNotReadOnce = 10
number_of Refusal.WordInTwoRows = 29
number_of Refusal.WordInNoRow = 30
number_of Refusal.ScheduleText = 11
number_of Refusal.SignalNotOnce = 12
number_of Refusal.Phase = 13
number_of Refusal.ReadUnmet = 14
number_of Refusal.OverCap = 15
number_of Refusal.Latency = 16
number_of Refusal.ImageBufferShort = 17
number_of Refusal.ImageNotWellFormed = 20
number_of Refusal.StateShort = 21
number_of Refusal.Position = 22
number_of Refusal.SamplesShort = 23
number_of Refusal.ScriptText = 24
number_of Refusal.SetOfNoInput = 25
number_of Refusal.NoSuchPlace = 26
number_of Refusal.StretchOutside = 27
number_of Refusal.NeverLoaded = 28
number_of Refusal.WrongLink = 31
number_of Refusal.UnknownWord = 40
number_of Refusal.OperandMissing = 41
number_of Refusal.NoNumber = 42
number_of Refusal.NumberOutside = 43
number_of Refusal.TextBufferShort = 44
number_of Refusal.UnknownByte = 45
number_of Refusal.OperandCut = 46
number_of Refusal.FormTooLong = 47
number_of Refusal.NoInput = 48
