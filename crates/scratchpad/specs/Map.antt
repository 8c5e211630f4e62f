-- A part's map, as a value: what differs between parts that have the same scratchpad commands.
use Rattle.std.specs.Prelude.{ℕ, Bool}
use Rattle.scratchpad.specs.Registers.{rule_of_byte}

pub record Map : Type 0 where
  -- the last address that Read Memory reads
  pub last : ℕ
  -- where the control byte of an address stands, and the lock byte of a page
  pub control : ℕ → ℕ
  pub lock : ℕ → ℕ
  -- an address is held, by its byte and its control byte
  pub held : ℕ → ℕ → ℕ → Bool
  -- an address only falls, by its control byte
  pub falls : ℕ → ℕ → Bool
  -- a page is closed to copying, by its control byte and its lock byte
  pub closed : ℕ → ℕ → ℕ → Bool
  -- the last offset that Read Scratchpad sends, by E/S
  pub end : ℕ → ℕ
  -- a reset inside the address of a write sets PF
  pub cut_sets_pf : Bool

-- a byte sent to the address a, by the byte and the control byte that stand in the memory
unfoldable pub rule_by : Map → ℕ → ℕ → ℕ → ℕ → ℕ
rule_by M a byte control sent = rule_of_byte (M.held a byte control) (M.falls a control) byte sent
