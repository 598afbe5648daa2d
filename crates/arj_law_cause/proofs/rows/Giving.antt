-- A call that is given up is lost, as the line before says.
use Rattle.arj_law.proofs.Reading.{read_none}
use Rattle.arj_law_parts.proofs.Words
use Words.{◌≡◌, ◌∙◌, ◌+◌, ◌++◌, ◌&&◌, ◌||◌, ℕ, Bool, true, false, List, [], ◌∷◌, length, Option, Some, None, refl, sym, ap, eq-eqb}
use Words.{bytes_eq, bytes_eq-Decides, Body, Event, Label, Line, Uid, name, numbered, At, AtActivate, AtBind, AtInvoke, AtLoad, AtNote}
use Words.{CallEnd, CallStep, Ended, Lost, On, Steps, given_up, node_at, Doing}
use Words.body
use Words.event
use Words.input
use Rattle.std.specs.Prelude.{drop}
use Rattle.std.proofs.Math.Seq.{drop-append_seam}
use Rattle.arj_law_serial.proofs.Terms
use Terms.{Act, act_in, acts, acts_more, has_end}
use Rattle.arj_law_lock_view.proofs.asking.Tying.{answers_stay}
use Rattle.arj_law_lock_view.specs.asking.Asked.{accepted_of}
use Rattle.arj_law_parts.specs.moves.Moments.{Moment}
use Rattle.arj_law_parts.specs.moves.With.{Brings}
use Rattle.arj_model.specs.Actions.{ended_of, halt_of, is_halted}
use Rattle.arj_model.specs.CauseAnswers.{ends_with, gives_up, is_giveup, lost_caused}
use Rattle.arj_model.specs.CauseSpans.{Here, asks_so}
use Rattle.arj_model.specs.Refusals.{answers_to, asks_by, has_ended, is_over_act, last_asked}
use Rattle.arj_law_cause.proofs.rows.{Spans.rows_so, Taking.IsCaller}

-- ---- the step that is given up

abbrev end_of : CallStep → CallEnd
end_of (Ended e) = e
end_of (On at) = Lost 0 false

-- where it ends the call, that is lost at the node which was asked
pub given_lost : (at : At) (g : CallEnd) → given_up at ≡ Ended g → (n : ℕ) × (b : Bool) × (g ≡ Lost n b) × (node_at at ≡ n)
given_lost (AtBind avoid) g is = (1, false, sym (ap end_of is), refl)
given_lost (AtLoad k s []) g is = (s, false, sym (ap end_of is), refl)
given_lost (AtLoad k s (t ∷ ts)) g is = absurd (cc is)
given_lost (AtActivate k st) g is = (k.server, false, sym (ap end_of is), refl)
given_lost (AtNote k i) g is = (1, false, sym (ap end_of is), refl)
given_lost (AtInvoke k i) g is = (k.server, true, sym (ap end_of is), refl)

-- a giveup is the event's
pub brings_give : (e : Event) (l : Label) → Brings e (input.GiveUp l) → e ≡ event.GiveUp l
brings_give (event.Begin m n) l is = absurd (cc is)
brings_give (event.Serial m n) l is = absurd (cc is)
brings_give (event.BeginIn m p) l is = let same = is.1 in absurd (cc same)
brings_give (event.Top m p) l is = absurd (cc is)
brings_give (event.Call m x o) l is = absurd (cc is)
brings_give (event.Include m x n) l is = absurd (cc is)
brings_give (event.Commit m) l is = absurd (cc is)
brings_give (event.Abort m) l is = absurd (cc is)
brings_give (event.GiveUp m) l is = ap (λ z. event.GiveUp z) (sym (label is))
  where
    label : input.GiveUp l ≡ input.GiveUp m → l ≡ m
    label same = let k : l ≡ m = cc in k
brings_give e l is = absurd is

-- ---- a line more

-- what is told of a giveup is nothing of ends
stays_open : (ls : List Line) (event : ℕ) (m : Label) (n : ℕ) (l : List ℕ) →
    has_ended (ls ++ numbered event (body.GaveUp m n ∷ [])) l ≡ has_ended ls l
stays_open ls event m n l =
    (λ i. is_over_act (ls ++ numbered event (body.GaveUp m n ∷ [])) (act_in (same_acts i) l)) ∙ over (act_in (acts ls) l)
  where
    same_acts : acts (ls ++ numbered event (body.GaveUp m n ∷ [])) ≡ acts ls
    same_acts = acts_more [] ls (numbered event (body.GaveUp m n ∷ []))

    over : (o : Option Act) → is_over_act (ls ++ numbered event (body.GaveUp m n ∷ [])) o ≡ is_over_act ls o
    over None = refl
    over (Some a) = λ i. has_end (read_none ended_of ls (record { event = event; body = body.GaveUp m n }) refl i) a.id || is_halted (read_none halt_of ls (record { event = event; body = body.GaveUp m n }) refl i) a

-- the last line of an event
ends_last : (test : Body → Bool) (event : ℕ) (bs : List Body) (b : Body) → ends_with test (numbered event (bs ++ b ∷ [])) ≡ test b
ends_last test event [] b = refl
ends_last test event (x ∷ []) b = refl
ends_last test event (x ∷ y ∷ bs) b = ends_last test event (y ∷ bs) b

-- ---- the row

module _ (k : ℕ) (M : Moment) (h : Here) (number : ℕ) (u : Uid) (w : Doing) (s : Steps) (c : IsCaller k M u w s) (n : ℕ)
    (lines : h.lines ≡ M.seen.lines ++ numbered number (body.GaveUp w.label n ∷ []))
    (accepted : (l : List ℕ) → asks_by h.accepted l ≡ asks_by (accepted_of M.past.askings) l) (before : List Line) (event : ℕ)
    (wrote : List Body) (first : h.first ≡ length before) (are : h.lines ≡ before ++ numbered event (wrote ++ body.GaveUp w.label n ∷ []))
    (gives : gives_up (name w.label) h.event ≡ true) where
  same_name : bytes_eq (name w.label) (name w.label) ≡ true
  same_name = (bytes_eq-Decides (name w.label) (name w.label)).1 refl

  waits : asks_so h (name w.label) (λ a q. true) ≡ true
  waits = rows_so h (name w.label) c.act (let a = c.asked in let z = a.asking in z.asked) (λ a q. true)
      ((λ i. act_in (acts (lines i)) (name w.label))
      ∙ ap (λ xs. act_in xs (name w.label)) (acts_more [] M.seen.lines (numbered number (body.GaveUp w.label n ∷ []))) ∙ c.named)
      (ap (λ ls. has_ended ls (name w.label)) lines ∙ stays_open M.seen.lines number w.label n (name w.label) ∙ c.stays)
      (ap length (accepted (name w.label)) ∙ c.more ∙ ap (λ ls. length ls + 1)
      (sym (ap (λ ls. answers_to ls (name w.label)) lines
      ∙ answers_stay M.seen.lines number (body.GaveUp w.label n ∷ []) (name w.label) (refl, tt))))
      (ap last_asked (accepted (name w.label)) ∙ (let a = c.asked in a.last)) refl

  said : ends_with (is_giveup (name w.label) n) (drop h.first h.lines) ≡ true
  said = (λ i. ends_with (is_giveup (name w.label) n) (drop (first i) (are i)))
      ∙ ap (ends_with (is_giveup (name w.label) n)) (drop-append_seam before (numbered event (wrote ++ body.GaveUp w.label n ∷ [])))
      ∙ ends_last (is_giveup (name w.label) n) event wrote (body.GaveUp w.label n) ∙ (λ i. same_name i && eq-eqb n n refl i)

  pub lost_so : lost_caused h (name w.label) n ≡ true
  lost_so = λ i. gives i && (said i && waits i)
