-- Document 01, "Search": "The host knows the line by the answers to its events alone: the search's list, counts and the line
-- it leaves are those of one run of events, each settled by the answers before it". A host is a tree of events and answers.
use Rattle.std.specs.Prelude.{ℕ, zero, suc, ◌+◌, ◌-◌, ◌%◌, ◌^◌, Bool, true, false, List, [], ◌∷◌, ◌++◌, eqb, ltb}
use Rattle.base.specs.Pick.{pick}
use Rattle.base.specs.Bits.{bit_of, both}
use Rattle.line.specs.Event.{Answered, bit, refused}
use Rattle.line.specs.Events.{slot_event, reset_event}
use Rattle.line.specs.Layout.{capped}
use Rattle.line.specs.declared.Event.{Event}

-- a host that comes to an A: it is done, or it puts an event on the line and goes on by the answer
pub data Host (A : Type 0) : Type 0 where
  done : A → Host A
  ask : Event → (Answered → Host A) → Host A

-- one host, then another that knows what the first came to
unfoldable pub bind : {A B : Type 0} → Host A → (A → Host B) → Host B
bind (done a) g = g a
bind (ask e f) g = ask e λ x. bind (f x) g

-- something that answers events
pub record Wire : Type 1 where
  pub L : Type 0
  pub says : Event → L → Answered
  pub does : Event → L → L

-- what a host came to, the line that it left, and the resets and slots that it put on it
pub record Played (A L : Type 0) : Type 0 where
  pub result : A
  pub line : L
  pub resets : ℕ
  pub slots : ℕ

abbrev pub played : {A L : Type 0} → A → L → ℕ → ℕ → Played A L
played a l r s = record { result = a; line = l; resets = r; slots = s }

-- so many more resets and slots
abbrev pub more : {A L : Type 0} → ℕ → ℕ → Played A L → Played A L
more r s p = played p.result p.line (r + p.resets) (s + p.slots)

-- an event counts as a reset, or as a slot, or as neither
abbrev pub resets_of : Event → ℕ
resets_of e = pick (eqb e.number 2) 1 0

abbrev pub slots_of : Event → ℕ
slots_of e = pick (ltb e.number 2) 1 0

-- a host on a wire
unfoldable pub play : (W : Wire) {A : Type 0} → Host A → W.L → Played A W.L
play W (done a) l = played a l 0 0
play W (ask e f) l = more (resets_of e) (slots_of e) (play W (f (W.says e l)) (W.does e l))

-- the bit that a host hears; without a bus bit it hears a 1, as of a line that nobody pulls
abbrev pub heard : Answered → Bool
heard (bit b) = b
heard (refused n) = true

-- how a pass ended: the path that was taken; one more than the last place where both bits were read as 0 and 0 was taken, or 0;
-- and whether a chip answered at every place
pub record End : Type 0 where
  pub path : ℕ
  pub last : ℕ
  pub whole : Bool

abbrev pub end : ℕ → ℕ → Bool → End
end p l b = record { path = p; last = l; whole = b }

-- the bit to write after the bit a and its complement b were read; where both are 0 the codes part, and t is taken
abbrev pub turn : Bool → Bool → Bool → Bool
turn true b t = true
turn false true t = false
turn false false t = t

-- the last parting at which 0 was taken, one more than its place
abbrev pub mark : Bool → Bool → Bool → ℕ → ℕ → ℕ
mark true b t k last = last
mark false true t k last = last
mark false false true k last = last
mark false false false k last = k + 1

-- the path with the bit d at place k
abbrev pub put : Bool → ℕ → ℕ → ℕ
put true k path = path + 2 ^ k
put false k path = path

-- a pass under way: the place that it has come to, the path that it wants where the codes part, the path that it took, and the last
-- parting at which 0 was taken, one more than its place, or 0
pub record UnderWay : Type 0 where
  pub place : ℕ
  pub want : ℕ
  pub path : ℕ
  pub last : ℕ

abbrev pub under_way : ℕ → ℕ → ℕ → ℕ → UnderWay
under_way k want path last = record { place = k; want = want; path = path; last = last }

-- one that begins
abbrev pub begun : ℕ → UnderWay
begun want = under_way 0 want 0 0

-- one at the next place, after the bit a and its complement b were read at this one
abbrev pub next_place : Bool → Bool → UnderWay → UnderWay
next_place a b p =
    let t : Bool = bit_of p.want p.place in
    under_way (p.place + 1) p.want (put (turn a b t) p.place p.path) (mark a b t p.place p.last)

-- n more of "64 times two reads and one write"; "A pass is given up as soon as no chip answers"
unfoldable pub pass : ℕ → UnderWay → Host End
pass zero p = done (end p.path p.last true)
pass (suc n) p =
    ask (slot_event true) λ x. ask (slot_event true) λ y.
    pick (both (heard x) (heard y)) (done (end p.path p.last false))
    (ask (slot_event (turn (heard x) (heard y) (bit_of p.want p.place))) λ z. pass n (next_place (heard x) (heard y) p))

-- n bits of a byte, from bit i on
unfoldable pub write : ℕ → ℕ → ℕ → Host (Unit {0})
write zero i byte = done tt
write (suc n) i byte = ask (slot_event (bit_of byte i)) λ x. write n (i + 1) byte

-- the path below a parting, and a 1 there: what the next pass takes where the codes part
unfoldable pub up_to : ℕ → ℕ → ℕ
up_to place path = path % 2 ^ place + 2 ^ place

-- the codes listed, and whether there are no more
pub record Listed : Type 0 where
  pub codes : List ℕ
  pub complete : Bool

abbrev pub listed : List ℕ → Bool → Listed
listed l b = record { codes = l; complete = b }

-- how the host goes on after a pass, with n places left
abbrev pub go_on : ℕ → List ℕ → (ℕ → List ℕ → Host Listed) → End → Host Listed
go_on n out again e =
    pick e.whole
    (pick (eqb e.last 0) (done (listed (out ++ (e.path ∷ [])) true))
    (pick (eqb n 0) (done (listed (out ++ (e.path ∷ [])) false))
    (again (up_to (e.last - 1) e.path) (out ++ (e.path ∷ [])))))
    (done (listed out true))

-- passes with n places left and some codes listed: "A pass is a reset, F0h, and 64 times two reads and one write."
unfoldable pub passes : ℕ → ℕ → List ℕ → Host Listed
passes zero want out = ask reset_event λ x. pick (heard x) (done (listed out true)) (done (listed out false))
passes (suc n) want out =
    ask reset_event λ x. pick (heard x) (done (listed out true))
    (bind (write 8 0 0xF0) λ u. bind (pass 64 (begun want)) (go_on n out (λ w o. passes n w o)))

-- the host of the search, by the number of places alone
abbrev pub search_host : ℕ → Host Listed
search_host places = passes (capped places) 0 []
