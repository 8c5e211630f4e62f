-- The request M-108: "The contractor wants to know how many slots that takes, and that the number reported is that of the slot events on the
-- line." Which events: resets and slots alone; and the counts are theirs.
use Rattle.std.specs.Prelude.{ℕ, zero, suc, true, List, [], ◌∷◌, ◌++◌, length}
use Rattle.std.proofs.Common.{◌∙◌, ap}
use Rattle.base.specs.Pick.{pick_if}
use Rattle.base.specs.Bits.{filled}
use Rattle.line.specs.Attached.{Attached, Stands}
use Rattle.line.specs.Layout.{capped}
use Rattle.search.specs.Host.{Host, heard}
use Rattle.rounds.specs.Borne.{page_size}
use Rattle.rounds.specs.Host.{read_bits, read_bytes, read_page, read_pages, Rounded, round_host}
use Rattle.rounds.specs.Round.{Round, borne_on, round_of}
use Rattle.histories.specs.Calls.{events_of, play_runs}
use Rattle.histories.specs.SearchEvents.{a_reset, a_slot, Asks, ends, asks, asks_bind, write_asks, passes_ask, asked_events, play_resets, play_slots, RunOfEvents}
use Rattle.morning.specs.Counts.{Sized, round_well}

-- the host of a round asks for nothing but resets and slots: a byte that is read, a page, the pages, the round
bits_ask : (n byte : ℕ) → Asks (read_bits n byte)
unfolding read_bits
bits_ask zero byte = ends
bits_ask (suc n) byte = asks (a_slot true) (λ x. bits_ask n (filled 0x80 byte (heard x)))

bytes_ask : (n : ℕ) (out : List ℕ) → Asks (read_bytes n out)
unfolding read_bytes
bytes_ask zero out = ends
bytes_ask (suc n) out = asks_bind (bits_ask 8 0) (λ byte. bytes_ask n (out ++ (byte ∷ [])))

page_asks : (code : ℕ) → Asks (read_page code)
unfolding read_page
page_asks code =
    asks a_reset (λ x.
    asks_bind (write_asks 8 0 0x55) (λ u. asks_bind (write_asks 64 0 code) (λ u.
    asks_bind (write_asks 8 0 0xF0) (λ u. asks_bind (write_asks 8 0 0x00) (λ u. asks_bind (write_asks 8 0 0x00) (λ u.
    bytes_ask page_size []))))))

pages_ask : (codes out : List ℕ) → Asks (read_pages codes out)
unfolding read_pages
pages_ask [] out = ends
pages_ask (code ∷ codes) out = asks_bind (page_asks code) (λ page. pages_ask codes (out ++ page))

round_asks : (places : ℕ) (borne : List ℕ) → Asks (round_host places borne)
round_asks places borne =
    asks_bind (passes_ask (capped places) 0 []) (λ r.
    pick_if (λ (h : Host Rounded). Asks h) _ _ _ (λ t. asks_bind (pages_ask _ []) (λ bytes. ends)) (λ t. ends))

-- THEOREM: on a table that neither 8 nor 5 refuses, with a page buffer of its size, a round is a run of events, under refusal 4 too: only resets
-- and slots; the line that it leaves is theirs, and so are the counts. The events are those that its host puts on that table
pub round_is_run : (list pages : List ℕ) (l : Attached) → Stands l → Sized pages l
    → RunOfEvents (round_of list pages l).found (events_of (round_host (length list) (borne_on l)) l) l
round_is_run list pages l s size =
    let h = round_host (length list) (borne_on l) in
    let w = round_well list pages l s size in
    record {
      only = asked_events h l (round_asks (length list) (borne_on l));
      line = ap (λ (r : Round). r.found.line) w ∙ play_runs h l;
      resets = ap (λ (r : Round). r.found.resets) w ∙ play_resets h l;
      slots = ap (λ (r : Round). r.found.slots) w ∙ play_slots h l;
    }
