-- Document 02, M-110, "Hex files for the chip programmer": the sizes, and the numbers of the refusals.
use Rattle.std.specs.Prelude.{ℕ}
use Rattle.intelhex.specs.declared.Fault.{Fault}
use Rattle.intelhex.specs.declared.Fault.TheVariants.{WrongSize, TooLong, NoLineEnd, NoColon, NoDigit, OddDigits, FewBytes, WrongCount, EndNotZero, CheckByte, UnknownType, AboveImage, NoEndRecord, AfterEnd}

-- "an image not of 2,624 bytes or, writing, a text buffer not of 7,228"
abbrev pub image_size : ℕ
image_size = 2624

abbrev pub text_size : ℕ
text_size = 7228

-- "a data byte's address above 0A3Fh"
abbrev pub last_address : ℕ
last_address = 0x0A3F

-- the request: "A line in form has at most 523 characters"
abbrev pub line_most : ℕ
line_most = 523

-- "5 first, an image not of 2,624 bytes ..; 16, a character or length out of form; 17, check byte; 18, a type but 00 or 01; 19, a data byte's address
-- above 0A3Fh; 20, no end record, or text after it"
abbrev pub number_of_fault : Fault → ℕ
number_of_fault WrongSize = 5
number_of_fault TooLong = 16
number_of_fault NoLineEnd = 16
number_of_fault NoColon = 16
number_of_fault NoDigit = 16
number_of_fault OddDigits = 16
number_of_fault FewBytes = 16
number_of_fault WrongCount = 16
number_of_fault EndNotZero = 16
number_of_fault CheckByte = 17
number_of_fault UnknownType = 18
number_of_fault AboveImage = 19
number_of_fault NoEndRecord = 20
number_of_fault AfterEnd = 20
