-- Laws: what a turn comes to, by what was found of the line.
use Rattle.std.specs.Prelude.{◌≡◌, ℕ, ◌+◌, ◌-◌, ◌≤◌, Bool, true, false, List, length, take, drop, Result, Ok}
use Rattle.std.proofs.Common.{arith, ◌∙◌, subst, length-drop, take_all, take_at, length-take-le}
use Rattle.std.proofs.Math.Path.{ap, sym}
use Rattle.std.proofs.lemmas.List.Edits.{sets, sets-eq}
use Rattle.base.specs.Pick.{pick_true, pick_false}
use Rattle.intelhex.specs.Bytes.{bytes_of}
use Rattle.intelhex.specs.Lines.{standing, form_of, count_in, judged}
use Rattle.intelhex.specs.Reading.{stop, next_by, next_in, next_of, next_after, next}
use Rattle.intelhex.specs.Turns.{Turned, turned, stopped, turned_by}
use Rattle.intelhex.specs.Ends.{bytes_length}
use Rattle.intelhex.specs.Sound.{LineLies, line_lies, FormFits, form_fits, RecordFits, record_fits}
use Rattle.intelhex.specs.declared.Ending.{Ending}
use Rattle.intelhex.specs.declared.lines.Standing.{Standing}
use Rattle.intelhex.specs.declared.lines.Standing.TheVariants.{Line}
use Rattle.intelhex.specs.declared.readers.Turn.TheVariants.{On}
use Rattle.intelhex.specs.declared.record.Judged.{Judged}
use Rattle.intelhex.specs.declared.record.Judged.TheVariants as judged-as
use Rattle.intelhex.specs.declared.Fault.{Fault}

-- a record
module _ (bytes image : List ℕ) (size : ℕ) where
  pub by_record : (p q : Result Judged Fault) (t : Turned) → p ≡ judged bytes → p ≡ q → t ≡ turned_by image (next_by size bytes q) → t ≡ turned_by image (next_by size bytes (judged bytes))
  by_record p q t e f h = h ∙ ap (λ (j : Result Judged Fault). turned_by image (next_by size bytes j)) (sym f ∙ e)

  pub data_fits : (p : Result Judged Fault) (address count : ℕ) → p ≡ judged bytes → p ≡ Ok (judged-as.Data address count) → RecordFits bytes (Ok (judged-as.Data address count))
  data_fits p address count e f = subst (RecordFits bytes) (sym e ∙ f) (record_fits bytes)

  pub by_data : (p : Result Judged Fault) (address count end : ℕ) (out : List ℕ) → p ≡ judged bytes → p ≡ Ok (judged-as.Data address count) → end ≡ count + 4
      → out ≡ sets image address (take (end - 4) (drop 4 bytes)) → turned (Ok (On size false)) out ≡ turned_by image (next_by size bytes (judged bytes))
  by_data p address count end out e f g h =
      let k : count ≡ count_in bytes = (data_fits p address count e f).1.0 in
      let n : end - 4 ≡ count_in bytes = omega arith in
      by_record p (Ok (judged-as.Data address count)) (turned (Ok (On size false)) out) e f
      (ap (turned (Ok (On size false))) (h ∙ ap (λ (x : ℕ). sets image address (take x (drop 4 bytes))) n))

-- a line
module _ (line image : List ℕ) (size : ℕ) where
  pub by_form : (p q : Result ℕ Fault) (t : Turned) → p ≡ form_of line → p ≡ q → t ≡ turned_by image (next_in size line q) → t ≡ turned_by image (next_in size line (form_of line))
  by_form p q t e f h = h ∙ ap (λ (x : Result ℕ Fault). turned_by image (next_in size line x)) (sym f ∙ e)

  pub bytes_fit : (p : Result ℕ Fault) (n : ℕ) → p ≡ form_of line → p ≡ Ok n → FormFits line (Ok n)
  bytes_fit p n e f = subst (FormFits line) (sym e ∙ f) (form_fits line)

  -- there is room for them in a buffer of the most bytes
  pub bytes_room : (p : Result ℕ Fault) (n : ℕ) (s : List ℕ) → p ≡ form_of line → p ≡ Ok n → length line ≤ 522 → length s ≡ 260 → n ≤ length s
  bytes_room p n s e f h r = let l = (bytes_fit p n e f).0 in omega arith

  -- the bytes that were put at the start of a buffer are those of the line
  decoded : (p : Result ℕ Fault) (n : ℕ) (s s' : List ℕ) → p ≡ form_of line → p ≡ Ok n → n ≤ length s → s' ≡ sets s 0 (bytes_of (take (length line - 1) (drop 1 line)))
      → take n s' ≡ bytes_of (drop 1 line)
  decoded p n s s' e f h g =
      let l = (bytes_fit p n e f).0 in
      let d = length-drop 1 line in
      let b = bytes_length (drop 1 line) in
      let m : length (bytes_of (drop 1 line)) ≡ n = omega arith in
      let w : take (length line - 1) (drop 1 line) ≡ drop 1 line = take_all (length line - 1) (drop 1 line) (omega arith) in
      ap (take n) (g ∙ ap (λ (cs : List ℕ). sets s 0 (bytes_of cs)) w ∙ sets-eq (bytes_of (drop 1 line)) s 0 (omega arith))
      ∙ take_at (bytes_of (drop 1 line)) (drop (0 + length (bytes_of (drop 1 line))) s) n m

  pub by_bytes : (p : Result ℕ Fault) (n : ℕ) (s s' : List ℕ) (t : Turned) → p ≡ form_of line → p ≡ Ok n → n ≤ length s
      → s' ≡ sets s 0 (bytes_of (take (length line - 1) (drop 1 line))) → t ≡ turned_by image (next_by size (take n s') (judged (take n s'))) → t ≡ turned_by image (next_in size line (form_of line))
  by_bytes p n s s' t e f h g k =
      by_form p (Ok n) t e f (k ∙ ap (λ (b : List ℕ). turned_by image (next_by size b (judged b))) (decoded p n s s' e f h g))

-- what a text begins with
module _ (more : Bool) (text image : List ℕ) where
  pub by_standing : (p q : Standing) (t : Turned) → p ≡ standing text → p ≡ q → t ≡ turned_by image (next_of more text q) → t ≡ turned_by image (next_of more text (standing text))
  by_standing p q t e f h = h ∙ ap (λ (x : Standing). turned_by image (next_of more text x)) (sym f ∙ e)

  lies : (p : Standing) (characters size : ℕ) → p ≡ standing text → p ≡ Line characters size → LineLies text (Line characters size)
  lies p characters size e f = subst (LineLies text) (sym e ∙ f) (line_lies text)

  pub line_within : (p : Standing) (characters size : ℕ) → p ≡ standing text → p ≡ Line characters size → characters ≤ length text
  line_within p characters size e f =
      let l = lies p characters size e f in
      let a = l.0 in
      let b = l.1.0 in
      omega arith

  pub line_few : (p : Standing) (characters size : ℕ) → p ≡ standing text → p ≡ Line characters size → length (take characters text) ≤ 522
  line_few p characters size e f =
      let l = lies p characters size e f in
      let a = l.0 in
      let b = l.1.1 in
      let m = length-take-le characters text (line_within p characters size e f) in
      omega arith

-- a text, after its end record and before it
module _ (more : Bool) (text image : List ℕ) (over : Bool) where
  pub by_after : (p q : Result Ending Fault) → over ≡ true → stop p ≡ next_after more text → p ≡ q → turned (stopped q) image ≡ turned_by image (next over more text)
  unfolding next
  by_after p q o h e = ap (turned_by image) (ap stop (sym e) ∙ h ∙ sym (pick_true _ _ _ o))

  pub by_before : (t : Turned) → over ≡ false → t ≡ turned_by image (next_of more text (standing text)) → t ≡ turned_by image (next over more text)
  unfolding next
  by_before t o h = h ∙ ap (turned_by image) (sym (pick_false _ _ _ o))
