-- What the reader tells, and the place that it is at.
use Rattle.std.proofs.Common.{◌≡◌, ◌+◌, ◌-◌, ◌<◌, ℕ, List, [], ◌∷◌, ◌++◌, Option, IfSome, Some, None, zero, suc, false, refl, sym, subst}
use Rattle.std.proofs.Common.{ap, arith}
use Rattle.arj_journal.specs.declared.event.Event.{Event}
use Rattle.arj_journal.specs.declared.header.Header.{Header}
use Rattle.arj_main.specs.declared.place.Place as here
use Rattle.arj_main.specs.Pieces.{pieces}
use Rattle.arj_main.specs.Places.{Leads, grammar_place}
use Rattle.arj_main.proofs.Cut.{piece_alone, pieces_at_cut}
use Rattle.arj_script.specs.Grammar.{Asks, Blank, Form, FormatOne, HasForm, Nodes, Object, Objects, Place, Run, Running, Start, next_place, nodes_at}
use Rattle.arj_script.specs.Input.{Tells}
use Rattle.arj_script.specs.declared.reader.Item.TheVariants as item
use Rattle.arj_text.specs.Fields.{has_byte}

-- a header that `run` ends is the one of the place
pub told_run : (p : Place) (form : Form) (h : Header) → Tells p form (item.Run h) → Objects h ≡ p
told_run (Objects g) Run h told = ap Objects told
told_run Start Blank h told = absurd told
told_run Start (Nodes n) h told = absurd told
told_run Start FormatOne h told = absurd told
told_run Start (Object o) h told = absurd told
told_run Start Run h told = absurd told
told_run Start (Asks e) h told = absurd told
told_run (Objects g) Blank h told = absurd told
told_run (Objects g) (Nodes m) h told = absurd told
told_run (Objects g) FormatOne h told = absurd told
told_run (Objects g) (Object o) h told = absurd told
told_run (Objects g) (Asks e) h told = absurd told
told_run Running Blank h told = absurd told
told_run Running (Nodes n) h told = absurd told
told_run Running FormatOne h told = absurd told
told_run Running (Object o) h told = absurd told
told_run Running Run h told = absurd told
told_run Running (Asks e) h told = absurd told

-- an event stands behind `run`
pub told_event : (p : Place) (bytes : List ℕ) (form : Form) (e : Event) → HasForm p bytes form → Tells p form (item.Event e) → Running ≡ p
told_event Running bytes form e has told = refl
told_event Start bytes (Asks f) e has told = absurd has.fits
told_event Start bytes Blank e has told = absurd told
told_event Start bytes (Nodes n) e has told = absurd told
told_event Start bytes FormatOne e has told = absurd told
told_event Start bytes (Object o) e has told = absurd told
told_event Start bytes Run e has told = absurd told
told_event (Objects g) bytes (Asks f) e has told = absurd has.fits
told_event (Objects g) bytes Blank e has told = absurd told
told_event (Objects g) bytes (Nodes m) e has told = absurd told
told_event (Objects g) bytes FormatOne e has told = absurd told
told_event (Objects g) bytes (Object o) e has told = absurd told
told_event (Objects g) bytes Run e has told = absurd told

-- a part of a header where none has begun stands at the start
pub told_part : (p : Place) (bytes : List ℕ) (form : Form) → nodes_at p ≡ None → HasForm p bytes form → Tells p form item.Part → Start ≡ p
told_part Start bytes form none has told = refl
told_part (Objects g) bytes form none has told = absurd (let never : Some g.nodes ≡ None = none in cc)
told_part Running bytes (Nodes n) none has told = absurd has.fits
told_part Running bytes FormatOne none has told = absurd has.fits
told_part Running bytes (Object o) none has told = absurd has.fits
told_part Running bytes Blank none has told = absurd told
told_part Running bytes Run none has told = absurd told
told_part Running bytes (Asks e) none has told = absurd told

-- one line on
pub leads_on : (from to : Place) (n i : ℕ) (rest line behind : List ℕ) (form : Form) → i < n → has_byte 10 line ≡ false →
    rest ≡ line ++ 10 ∷ behind → HasForm from line form
    → Leads (next_place from form) (n - (i + 1)) (pieces 10 behind) to → Leads from (n - i) (pieces 10 rest) to
leads_on from to n i rest line behind form within h is has on =
    let more : suc (n - (i + 1)) ≡ n - i = omega (arith, within) in
    subst (λ m. Leads from m (pieces 10 rest) to) more
    (subst (λ ps. Leads from (suc (n - (i + 1))) ps to) (sym (pieces_at_cut 10 rest line behind h is)) (form, has, on))

-- the last line
pub leads_last : (from to : Place) (n i : ℕ) (rest : List ℕ) (form : Form) → i < n → has_byte 10 rest ≡ false → HasForm from rest form →
    to ≡ next_place from form
    → Leads from (n - i) (pieces 10 rest) to
leads_last from to n i rest form within h has is =
    let more : suc (n - (i + 1)) ≡ n - i = omega (arith, within) in
    subst (λ m. Leads from m (pieces 10 rest) to) more
    (subst (λ ps. Leads from (suc (n - (i + 1))) ps to) (sym (piece_alone 10 rest h)) (form, has, ends (n - (i + 1))))
  where
    ends : (m : ℕ) → Leads (next_place from form) m [] to
    ends zero = is
    ends (suc m) = is

-- no line is asked for any more
pub leads_nowhere : (from to : Place) (m : ℕ) (lines : List (List ℕ)) → m ≡ 0 → to ≡ from → Leads from m lines to
leads_nowhere from to m lines none is = subst (λ k. Leads from k lines to) (sym none) is

-- what is found behind the last line
pub behind_last : (from : Place) (n i m : ℕ) (rest script : List ℕ) (found : Option here.Place) → i < n → has_byte 10 rest ≡ false → n ≡ m
    → ((to : Place) → Leads from (n - i) (pieces 10 rest) to → Leads Start n (pieces 10 script) to)
    → IfSome found (λ place. (form : Form) × HasForm from rest form × (grammar_place place ≡ next_place from form))
    → IfSome found (λ place. Leads Start m (pieces 10 script) (grammar_place place))
behind_last from n i m rest script None within h is on has = has
behind_last from n i m rest script (Some place) within h is on has =
    subst (λ k. Leads Start k (pieces 10 script) (grammar_place place)) is
    (on (grammar_place place) (leads_last from (grammar_place place) n i rest has.0 within h has.1 has.2))
