-- Laws: a text is refused for just one cause, and read where it has none.
use Rattle.std.specs.Prelude.{ℕ, zero, suc, ◌+◌, ◌<◌, ◌≤◌, true, false, List, [], ◌∷◌, ◌++◌, ◌≡◌, refl, length, drop, Result, Ok, Err}
use Rattle.std.proofs.Common.{zero-add, add-zero, add-one, arith, append_assoc, append-nil, ◌∙◌, ap, sym, subst, length-drop}
use Rattle.std.proofs.Math.Seq.{drop-append_seam}
use Rattle.base.specs.Exactly.{No}
use Rattle.base.specs.Pick.{pick_false}
use Rattle.intelhex.specs.Faults.{number_of_fault}
use Rattle.intelhex.specs.Lines.{address_in, data_in, judged}
use Rattle.intelhex.specs.Reading.{Given, given, Next, data-record, end-record, stop, next_by, next_of, next, Found, following, lines_of}
use Rattle.intelhex.specs.Sound.{stands_nothing}
use Rattle.intelhex.proofs.Underway.{NextLies, next_lies}
use Rattle.intelhex.specs.declared.Ending.{Ending}
use Rattle.intelhex.specs.declared.Ending.TheVariants.{End, Part}
use Rattle.intelhex.specs.declared.Fault.{Fault}
use Rattle.intelhex.specs.declared.Fault.TheVariants.{CheckByte, UnknownType, AboveImage, NoEndRecord, AfterEnd}
use Rattle.intelhex.specs.declared.record.Judged.{Judged}
use Rattle.intelhex.specs.declared.record.Judged.TheVariants as judged-as
use Rattle.roundtrip.specs.Grammar.{IsLineOf, IsDataRecord, IsEndRecord, GoodLines, none, a_line, Behind, Begins, Cause, out_of_form, check_byte, another_type, above_image, no_end_record, after_end, Faultless}
use Rattle.roundtrip.specs.Formed.{formed_next}
use Rattle.roundtrip.specs.Records.{formed_chain, judged_17, judged_18, judged_19, judged_end, judged_data}
use Rattle.roundtrip.specs.Found.{Stops, stops_16, stops_17, stops_18, stops_19, stops_20, NextSays, next_says}
use Rattle.roundtrip.specs.Steps.{lines_data, lines_end, lines_stop, over_end, over_more}

-- ---- a text that begins with a line in form
module _ (text bytes more : List ℕ) (b : Begins text bytes more) where
  pub begins_next : next false false text ≡ next_by (length b.line) bytes (judged bytes)
  begins_next = ap (next false false) b.is ∙ formed_next bytes b.line more false b.formed b.form.0 b.form.1.0

  -- it is not refused by 16
  abbrev number_in : Next → ℕ
  number_in (data-record size g) = 0
  number_in (end-record size) = 0
  number_in (stop (Ok End)) = 0
  number_in (stop (Ok Part)) = 0
  number_in (stop (Err f)) = number_of_fault f

  not_16 : number_in (next false false text) ≡ 16 → ⊥
  not_16 e = formed_chain bytes b.form.1 (λ (j : Result Judged Fault). number_in (next_by (length b.line) bytes j) ≡ 16 → ⊥) (λ z. omega arith) (λ z. omega arith) (λ z. omega arith) (λ z. omega arith)
      (λ z. omega arith) (ap number_in (sym begins_next) ∙ e)

  rest_is : drop (length b.line) text ≡ more
  rest_is = ap (drop (length b.line)) b.is ∙ drop-append_seam b.line more

-- ---- every text that is refused has its cause, and one that is read has none
here : (text : List ℕ) → Behind text text 0
here text = record { before = []; gave = []; good = none; many = refl; is = refl }

behind_line : (bytes line text rest : List ℕ) (n : ℕ) → IsLineOf bytes line → IsDataRecord bytes → Behind text rest n → Behind (line ++ text) rest (suc n)
behind_line bytes line text rest n f d b = record {
  before = line ++ b.before;
  gave = given (address_in bytes) (data_in bytes) ∷ b.gave;
  good = a_line f d b.good;
  many = ap suc b.many;
  is = ap (λ (x : List ℕ). line ++ x) b.is ∙ sym (append_assoc line b.before rest);
}

cause_line : (bytes line text : List ℕ) (n lines : ℕ) → IsLineOf bytes line → IsDataRecord bytes → Cause text n lines → Cause (line ++ text) n (suc lines)
cause_line bytes line text n lines f d (out_of_form b s a) = out_of_form (behind_line bytes line text _ _ f d b) s a
cause_line bytes line text n lines f d (check_byte b g s) = check_byte (behind_line bytes line text _ _ f d b) g s
cause_line bytes line text n lines f d (another_type b g s t u) = another_type (behind_line bytes line text _ _ f d b) g s t u
cause_line bytes line text n lines f d (above_image b g s t u) = above_image (behind_line bytes line text _ _ f d b) g s t u
cause_line bytes line text n lines f d (no_end_record b) = no_end_record (behind_line bytes line text _ _ f d b)
cause_line bytes line text n lines f d (after_end b g e m) = after_end (behind_line bytes line text _ _ f d b) g e m

abbrev JudgedBy : List ℕ → List Given → Result Ending Fault → ℕ → Type 0
JudgedBy text gs (Ok End) lines = Faultless text gs
JudgedBy text gs (Ok Part) lines = ⊥
JudgedBy text gs (Err f) lines = Cause text (number_of_fault f) lines

-- by what was found of it
abbrev JudgedAs : List ℕ → Found → Type 0
JudgedAs text f = JudgedBy text f.given f.ending f.lines

judged_line : (bytes line text : List ℕ) (gs : List Given) (e : Result Ending Fault) (lines : ℕ) → IsLineOf bytes line → IsDataRecord bytes → JudgedBy text gs e lines
    → JudgedBy (line ++ text) (given (address_in bytes) (data_in bytes) ∷ gs) e (1 + lines)
judged_line bytes line text gs (Ok End) lines f d x = record {
  before = line ++ x.before;
  last = x.last;
  bytes = x.bytes;
  lines = a_line f d x.lines;
  formed = x.formed;
  ends = x.ends;
  is = ap (λ (y : List ℕ). line ++ y) x.is ∙ sym (append_assoc line x.before x.last);
}
judged_line bytes line text gs (Ok Part) lines f d x = absurd x
judged_line bytes line text gs (Err y) lines f d x =
    let e : suc lines ≡ 1 + lines = omega arith in
    subst (Cause (line ++ text) (number_of_fault y)) e (cause_line bytes line text (number_of_fault y) lines f d x)

-- where it stops
stop_cause : (text : List ℕ) (n : ℕ) → (n ≡ 16 → (bytes more : List ℕ) → No (Begins text bytes more)) → Stops text n → Cause text n 0
stop_cause text n never (stops_16 s) = out_of_form (here text) s (never refl)
stop_cause text n never (stops_17 b s) = check_byte (here text) b s
stop_cause text n never (stops_18 b s t u) = another_type (here text) b s t u
stop_cause text n never (stops_19 b s t u) = above_image (here text) b s t u
stop_cause text n never (stops_20 e) = no_end_record (record { before = []; gave = []; good = none; many = refl; is = e })

-- after the end record
after_cause : (bytes line rest : List ℕ) (size : ℕ) → IsLineOf bytes line → IsEndRecord bytes → JudgedAs (line ++ rest) (following [] size 1 (lines_of false true rest))
after_cause bytes line [] size f e =
    subst (λ (x : Found). JudgedAs (line ++ []) (following [] size 1 x)) (sym over_end)
    (record { before = []; last = line; bytes = bytes; lines = none; formed = f; ends = e; is = append-nil line })
after_cause bytes line (c ∷ cs) size f e =
    let n : No (c ∷ cs ≡ []) = λ z. let y = ap length z in omega arith in
    subst (λ (x : Found). JudgedAs (line ++ (c ∷ cs)) (following [] size 1 x)) (sym (over_more (c ∷ cs) n))
    (after_end (here (line ++ (c ∷ cs))) (record { line = line; formed = f; form = e.0; is = refl }) e n)

every_text : (k : ℕ) (text : List ℕ) → length text < k → JudgedAs text (lines_of false false text)
every_text zero text h = absurd (omega arith)
every_text (suc k) text h = by (next false false text) refl (next_says text) (next_lies text false false) (λ size a b. every_text k (drop size text) (let d = length-drop size text in omega arith))
  where
    of : (f : Found) → lines_of false false text ≡ f → JudgedAs text f → JudgedAs text (lines_of false false text)
    of f e x = subst (JudgedAs text) (sym e) x

    by : (x : Next) → next false false text ≡ x → NextSays text x → NextLies text x
        → ((size : ℕ) → 0 < size → size ≤ length text → JudgedAs (drop size text) (lines_of false false (drop size text))) → JudgedAs text (lines_of false false text)
    by (data-record size g) e (bytes, line, f, d, is, eg) l later =
        let R = lines_of false false (drop size text) in
        of _ (lines_data false false text size g e)
        (subst (λ (x : Given). JudgedBy text (x ∷ R.given) R.ending (1 + R.lines)) (sym eg)
        (subst (λ (x : List ℕ). JudgedBy x (given (address_in bytes) (data_in bytes) ∷ R.given) R.ending (1 + R.lines)) (sym is)
        (judged_line bytes line (drop size text) R.given R.ending R.lines f d (later size l.0 l.1))))
    by (end-record size) e (bytes, line, f, d, is) l later =
        of _ (lines_end false false text size e)
        (subst (λ (x : List ℕ). JudgedAs x (following [] size 1 (lines_of false true (drop size text)))) (sym is) (after_cause bytes line (drop size text) size f d))
    by (stop (Ok End)) e says l later = absurd says
    by (stop (Ok Part)) e says l later = absurd says
    by (stop (Err x)) e says l later =
        of _ (lines_stop false false text (Err x) e) (stop_cause text (number_of_fault x) (λ n bytes more b. not_16 text bytes more b (ap (number_in text bytes more b) e ∙ n)) says)

-- how reading a whole text ends
abbrev pub Ends : List ℕ → Result Ending Fault → Type 0
Ends text e = (lines_of false false text).ending ≡ e

all_judged : (text : List ℕ) (e : Result Ending Fault) → Ends text e → JudgedBy text (lines_of false false text).given e (lines_of false false text).lines
all_judged text e h =
    subst (λ (x : Result Ending Fault). JudgedBy text (lines_of false false text).given x (lines_of false false text).lines) h (every_text (suc (length text)) text (omega arith))

pub ended_faultless : (text : List ℕ) → Ends text (Ok End) → Faultless text (lines_of false false text).given
ended_faultless text h = all_judged text (Ok End) h

pub never_part : (text : List ℕ) → No (Ends text (Ok Part))
never_part text h = all_judged text (Ok Part) h

pub refused_cause : (text : List ℕ) (f : Fault) → Ends text (Err f) → Cause text (number_of_fault f) (lines_of false false text).lines
refused_cause text f h = all_judged text (Err f) h

-- ---- a text with a cause is refused for it

pub line_taken : (bytes line rest : List ℕ) → IsLineOf bytes line → IsDataRecord bytes
    → lines_of false false (line ++ rest) ≡ following (given (address_in bytes) (data_in bytes) ∷ []) (length line) 1 (lines_of false false rest)
line_taken bytes line rest f d =
    let n : next false false (line ++ rest) ≡ data-record (length line) (given (address_in bytes) (data_in bytes))
    = formed_next bytes line rest false f d.0.0 d.0.1.0 ∙ ap (next_by (length line) bytes) (sym (judged_data bytes d.0.1 d.1.0 d.1.1.0 d.1.1.1)) in
    lines_data false false (line ++ rest) (length line) (given (address_in bytes) (data_in bytes)) n
    ∙ ap (λ (x : List ℕ). following (given (address_in bytes) (data_in bytes) ∷ []) (length line) 1 (lines_of false false x)) (drop-append_seam line rest)

pub lines_taken : (before : List ℕ) (gs : List Given) (rest : List ℕ) → GoodLines before gs
    → ((lines_of false false (before ++ rest)).ending ≡ (lines_of false false rest).ending)
    × (((lines_of false false (before ++ rest)).given ≡ gs ++ (lines_of false false rest).given) × ((lines_of false false (before ++ rest)).lines ≡ length gs + (lines_of false false rest).lines))
lines_taken before gs rest none = (refl, (refl, sym (zero-add _)))
lines_taken before gs rest (a_line {bytes = bytes} {line = line} {text = text} {gs = hs} f d l) =
    let i = lines_taken text hs rest l in
    let g = given (address_in bytes) (data_in bytes) in
    let e : lines_of false false ((line ++ text) ++ rest) ≡ following (g ∷ []) (length line) 1 (lines_of false false (text ++ rest))
    = ap (lines_of false false) (append_assoc line text rest) ∙ line_taken bytes line (text ++ rest) f d in
    let m = i.1.1 in
    let n : 1 + (lines_of false false (text ++ rest)).lines ≡ suc (length hs) + (lines_of false false rest).lines = omega arith in
    (ap (λ (x : Found). x.ending) e ∙ i.0, (ap (λ (x : Found). x.given) e ∙ ap (λ (x : List Given). g ∷ x) i.1.0, ap (λ (x : Found). x.lines) e ∙ n))

-- it ends so, after so many lines
abbrev pub EndsAfter : List ℕ → Result Ending Fault → ℕ → Type 0
EndsAfter text e lines = Ends text e × ((lines_of false false text).lines ≡ lines)

ends_behind : (text rest : List ℕ) (e : Result Ending Fault) (n m : ℕ) → Behind text rest n → EndsAfter rest e m → EndsAfter text e (n + m)
ends_behind text rest e n m b h =
    let t = ap (lines_of false false) b.is in
    let l = lines_taken b.before b.gave rest b.good in
    (ap (λ (x : Found). x.ending) t ∙ l.0 ∙ h.0, ap (λ (x : Found). x.lines) t ∙ l.1.1 ∙ (λ j. b.many j + h.1 j))

ends_here : (text rest : List ℕ) (e : Result Ending Fault) (n : ℕ) → Behind text rest n → EndsAfter rest e 0 → EndsAfter text e n
ends_here text rest e n b h = let x = ends_behind text rest e n 0 b h in (x.0, x.1 ∙ add-zero n)

ends-by : (text : List ℕ) (e : Result Ending Fault) (f : Found) → lines_of false false text ≡ f → f.ending ≡ e → EndsAfter text e f.lines
ends-by text e f q h = (ap (λ (x : Found). x.ending) q ∙ h, ap (λ (x : Found). x.lines) q)

ends_stopped : (text bytes more : List ℕ) (f : Fault) → Begins text bytes more → Err f ≡ judged bytes → EndsAfter text (Err f) 0
ends_stopped text bytes more f b j =
    ends-by text (Err f) _ (lines_stop false false text (Err f) (begins_next text bytes more b ∙ ap (next_by (length b.line) bytes) (sym j))) refl

-- a text that does not begin with a line in form stops there
sixteen : (text : List ℕ) → No (text ≡ []) → ((bytes more : List ℕ) → No (Begins text bytes more)) → (f : Fault) × (EndsAfter text (Err f) 0) × (number_of_fault f ≡ 16)
sixteen text some never = by (next false false text) refl (next_says text)
  where
    number : (n : ℕ) → Stops text n → n ≡ 16
    number n (stops_16 s) = refl
    number n (stops_17 b s) = absurd (never _ _ b)
    number n (stops_18 b s t u) = absurd (never _ _ b)
    number n (stops_19 b s t u) = absurd (never _ _ b)
    number n (stops_20 e) = absurd (some e)

    by : (x : Next) → next false false text ≡ x → NextSays text x → (f : Fault) × (EndsAfter text (Err f) 0) × (number_of_fault f ≡ 16)
    by (data-record size g) e (bytes, line, f, d, is, eg) = absurd (never bytes (drop size text) (record { line = line; formed = f; form = d.0; is = is }))
    by (end-record size) e (bytes, line, f, d, is) = absurd (never bytes (drop size text) (record { line = line; formed = f; form = d.0; is = is }))
    by (stop (Ok End)) e says = absurd says
    by (stop (Ok Part)) e says = absurd says
    by (stop (Err x)) e says = (x, ends-by text (Err x) _ (lines_stop false false text (Err x) e) refl, number (number_of_fault x) says)

-- the empty text has no end record
ends_empty : EndsAfter [] (Err NoEndRecord) 0
unfolding next
ends_empty =
    ends-by [] (Err NoEndRecord) _
    (lines_stop false false [] (Err NoEndRecord) (pick_false _ _ _ refl ∙ ap (next_of false []) (sym (stands_nothing [] refl)) ∙ ap stop (pick_false _ _ _ refl))) refl

-- a text that begins with the end record goes on behind it
over_lines : (text bytes more : List ℕ) → Begins text bytes more → IsEndRecord bytes → (size : ℕ) × (lines_of false false text ≡ following [] size 1 (lines_of false true more))
over_lines text bytes more b d =
    let n : next false false text ≡ end-record (length b.line)
    = begins_next text bytes more b ∙ ap (next_by (length b.line) bytes) (sym (judged_end bytes d.0.1 d.1.0 d.1.1)) in
    (length b.line, lines_end false false text (length b.line) n ∙ ap (λ (x : List ℕ). following [] (length b.line) 1 (lines_of false true x)) (rest_is text bytes more b))

ends_over : (text bytes more : List ℕ) → Begins text bytes more → IsEndRecord bytes → No (more ≡ []) → EndsAfter text (Err AfterEnd) 1
ends_over text bytes more b d m =
    let o = over_lines text bytes more b d in
    ends-by text (Err AfterEnd) _ (o.1 ∙ ap (following [] o.0 1) (over_more more m)) refl

-- a refusal by that number, after so many lines
abbrev pub RefusedBy : List ℕ → ℕ → ℕ → Type 0
RefusedBy text n lines = (f : Fault) × (EndsAfter text (Err f) lines) × (number_of_fault f ≡ n)

pub cause_ends : (text : List ℕ) (n lines : ℕ) → Cause text n lines → RefusedBy text n lines
cause_ends text n lines (out_of_form {rest = rest} b s a) = let x = sixteen rest s a in (x.0, ends_here text rest (Err x.0) lines b x.1, x.2)
cause_ends text n lines (check_byte {rest = rest} {bytes = bytes} {more = more} b g s) =
    (CheckByte, ends_here text rest (Err CheckByte) lines b (ends_stopped rest bytes more CheckByte g (judged_17 bytes g.form.1 s)), refl)
cause_ends text n lines (another_type {rest = rest} {bytes = bytes} {more = more} b g s t u) =
    (UnknownType, ends_here text rest (Err UnknownType) lines b (ends_stopped rest bytes more UnknownType g (judged_18 bytes g.form.1 s t u)), refl)
cause_ends text n lines (above_image {rest = rest} {bytes = bytes} {more = more} b g s t u) =
    (AboveImage, ends_here text rest (Err AboveImage) lines b (ends_stopped rest bytes more AboveImage g (judged_19 bytes g.form.1 s t u)), refl)
cause_ends text n lines (no_end_record b) = (NoEndRecord, ends_here text [] (Err NoEndRecord) lines b ends_empty, refl)
cause_ends text n lines (after_end {rest = rest} {bytes = bytes} {more = more} {lines = k} b g e m) =
    let x = ends_behind text rest (Err AfterEnd) k 1 b (ends_over rest bytes more g e m) in
    (AfterEnd, (x.0, x.1 ∙ add-one k), refl)

-- a text with no fault is read, and gives what its lines give
pub faultless_ends : (text : List ℕ) (gs : List Given) → Faultless text gs → Ends text (Ok End) × ((lines_of false false text).given ≡ gs)
faultless_ends text gs x =
    let last = x.last in
    let b : Begins last x.bytes [] = record { line = last; formed = x.formed; form = x.ends.0; is = sym (append-nil last) } in
    let o = over_lines last x.bytes [] b x.ends in
    let e = o.1 ∙ ap (following [] o.0 1) over_end in
    let l = lines_taken x.before gs last x.lines in
    let t = ap (lines_of false false) x.is in
    (ap (λ (y : Found). y.ending) t ∙ l.0 ∙ ap (λ (y : Found). y.ending) e, ap (λ (y : Found). y.given) t ∙ l.1.0 ∙ ap (λ (y : Found). gs ++ y.given) e ∙ append-nil gs)
