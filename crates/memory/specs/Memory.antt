-- A memory over a map: what a slot looks at, what it sees, and what its deed does, over bytes in the order of their addresses.
use Rattle.std.specs.Prelude.{ℕ, zero, suc, ◌+◌, ◌-◌, ◌%◌, Bool, false, List, get_or, set}
use Rattle.scratchpad.specs.Map.{Map, rule_by}
use Rattle.scratchpad.specs.Scratchpad.{in_page}
use Rattle.scratchpad.specs.declared.Sight.{Sight}
use Rattle.scratchpad.specs.declared.Hand.{Hand}
use Rattle.scratchpad.specs.declared.Hand.TheVariants as hand
use Rattle.scratchpad.specs.declared.Deed.{Deed}
use Rattle.scratchpad.specs.declared.Deed.TheVariants as deed
use Rattle.memory.specs.declared.Look.{Look}
use Rattle.memory.specs.declared.Look.TheVariants as look
use Rattle.memory.specs.declared.Seen.{Seen}

-- which bytes a slot looks at
abbrev pub look_of : Map → Hand → Look
look_of M hand.Nothing = look.Nothing
look_of M (hand.Byte a) = look.Memory a (M.control a)
look_of M (hand.Page p) = look.Memory (M.control p) (M.lock p)
look_of M (hand.Pad o) = look.Pad o
look_of M (hand.Memory a) = look.Memory a a

-- the bytes that were looked at
abbrev pub seen : ℕ → ℕ → Seen
seen x y = record { first = x; second = y }

-- those of the memory m and the scratchpad s
abbrev pub seen_in : List ℕ → List ℕ → Look → Seen
seen_in m s look.Nothing = seen 0 0
seen_in m s (look.Memory a b) = seen (get_or m a 0) (get_or m b 0)
seen_in m s (look.Pad o) = seen (get_or s o 0) 0

abbrev pub sight : Map → ℕ → ℕ → Bool → Bool → Bool → ℕ → Sight
sight M es memory held falls closed pad =
    record { memory = memory; held = held; falls = falls; closed = closed; pad = pad; last = M.last; end = M.end es }

-- what a slot sees, by the bytes that it looked at
abbrev pub sight_by : Map → ℕ → Seen → Hand → Sight
sight_by M es x hand.Nothing = sight M es 0 false false false 0
sight_by M es x (hand.Byte a) = sight M es x.first (M.held a x.first x.second) (M.falls a x.second) false 0
sight_by M es x (hand.Page p) = sight M es 0 false false (M.closed p x.first x.second) 0
sight_by M es x (hand.Pad o) = sight M es 0 false false false x.first
sight_by M es x (hand.Memory a) = sight M es x.first false false false 0

-- the byte b, sent to the address a of the memory m
unfoldable pub rule_at : Map → List ℕ → ℕ → ℕ → ℕ
rule_at M m a b = rule_by M a (get_or m a 0) (get_or m (M.control a) 0) b

-- how many offsets there are "from T mod 32 to E", an offset being below 32; subtraction stops at 0, so where E is below T mod 32
-- there is none
unfoldable pub span_of : ℕ → ℕ → ℕ
span_of t e = e % 32 + 1 - t % 32

-- n bytes of the scratchpad s from the offset k on, put into the page at p: "each offset .. passes the rule of a byte again
-- into memory, every byte judged by the memory before the copy"
unfoldable pub copied : Map → List ℕ → List ℕ → ℕ → ℕ → ℕ → List ℕ
copied M m s p k zero = m
copied M m s p k (suc n) = set (copied M m s p k n) (p + (k + n)) (rule_at M m (p + (k + n)) (get_or s (k + n) 0))

-- a chip's memory and scratchpad
pub record Bytes : Type 0 where
  pub memory : List ℕ
  pub pad : List ℕ

abbrev pub bytes : List ℕ → List ℕ → Bytes
bytes m s = record { memory = m; pad = s }

-- what a deed does to memory and scratchpad
abbrev pub done : Map → List ℕ → List ℕ → Deed → Bytes
done M m s deed.Nothing = bytes m s
done M m s (deed.Put offset b) = bytes m (set s offset b)
done M m s (deed.Copy t e) = bytes (copied M m s (in_page t 0) (t % 32) (span_of t e)) s
