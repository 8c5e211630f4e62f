-- What is wrong with a line, or with an image, in words.
use Rattle.std.specs.Prelude.{ℕ, List, codes}
use Rattle.intelhex.specs.declared.Fault.{Fault}
use Rattle.intelhex.specs.declared.Fault.TheVariants.{WrongSize, TooLong, NoLineEnd, NoColon, NoDigit, OddDigits, FewBytes, WrongCount, EndNotZero, CheckByte, UnknownType, AboveImage, NoEndRecord, AfterEnd}

-- the characters of a fault's words
abbrev pub words_of : Fault → List ℕ
words_of WrongSize = codes "an image has 2624 bytes"
words_of TooLong = codes "no line end in its first 523 characters, which is the most that a line has"
words_of NoLineEnd = codes "the file ends without a line end"
words_of NoColon = codes "no colon at its beginning"
words_of NoDigit = codes "a character that is no hex digit"
words_of OddDigits = codes "an odd number of hex digits"
words_of FewBytes = codes "fewer than the five bytes that every record has"
words_of WrongCount = codes "the count is not the number of its data bytes"
words_of EndNotZero = codes "an end record whose count or address is not 0"
words_of CheckByte = codes "the check byte is wrong: the low byte of the sum of the record's bytes is not 0"
words_of UnknownType = codes "a record of a type other than 00 and 01"
words_of AboveImage = codes "a data byte at an address above 0A3Fh"
words_of NoEndRecord = codes "the file ends without an end record"
words_of AfterEnd = codes "text after the end record"
