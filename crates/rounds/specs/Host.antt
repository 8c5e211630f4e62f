-- The request M-108: the host of a round, a tree of events and answers as the search's is. Document 02: "A round searches the line and then reads
-- page 0 of each DS28EC20 by Match ROM and Read Memory."
use Rattle.std.specs.Prelude.{ℕ, zero, suc, true, List, [], ◌∷◌, ◌++◌}
use Rattle.base.specs.Pick.{pick}
use Rattle.base.specs.Bits.{filled}
use Rattle.line.specs.Events.{slot_event, reset_event}
use Rattle.search.specs.Host.{Host, done, ask, bind, heard, write, Listed, search_host}
use Rattle.rounds.specs.Borne.{only_borne, page_size}

-- n more bits of a byte, read into a register that holds those before them; the least significant comes first
unfoldable pub read_bits : ℕ → ℕ → Host ℕ
read_bits zero byte = done byte
read_bits (suc n) byte = ask (slot_event true) λ x. read_bits n (filled 0x80 byte (heard x))

-- n more bytes, after those that were read
unfoldable pub read_bytes : ℕ → List ℕ → Host (List ℕ)
read_bytes zero out = done out
read_bytes (suc n) out = bind (read_bits 8 0) λ byte. read_bytes n (out ++ (byte ∷ []))

-- "A page is read by a reset, 55h and the code's eight bytes (72 slots), F0h 00h 00h (24 slots), 32 bytes (256 slots)."
unfoldable pub read_page : ℕ → Host (List ℕ)
read_page code =
    ask reset_event λ x.
    bind (write 8 0 0x55) λ u. bind (write 64 0 code) λ u.
    bind (write 8 0 0xF0) λ u. bind (write 8 0 0x00) λ u. bind (write 8 0 0x00) λ u.
    read_bytes page_size []

-- the pages of these codes, after the bytes that were read: "in list order, without gaps"
unfoldable pub read_pages : List ℕ → List ℕ → Host (List ℕ)
read_pages [] out = done out
read_pages (code ∷ codes) out = bind (read_page code) λ page. read_pages codes (out ++ page)

-- what a round came to: what its search listed, and the bytes that it read
pub record Rounded : Type 0 where
  pub listed : Listed
  pub bytes : List ℕ

abbrev pub rounded : Listed → List ℕ → Rounded
rounded l bytes = record { listed = l; bytes = bytes }

-- how the host goes on after its search: where the list is complete it reads the page of each code listed that is borne; under refusal 4
-- "no page read"
abbrev pub then_pages : List ℕ → Listed → Host Rounded
then_pages borne l =
    pick l.complete
    (bind (read_pages (only_borne borne l.codes) []) λ bytes. done (rounded l bytes))
    (done (rounded l []))

-- the host of a round, by the number of places and the codes that are borne alone
abbrev pub round_host : ℕ → List ℕ → Host Rounded
round_host places borne = bind (search_host places) (then_pages borne)
