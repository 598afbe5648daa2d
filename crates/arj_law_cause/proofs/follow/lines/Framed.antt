-- Frames and halts between an event's own lines, from what is known of each of its lines.
use Rattle.arj_law_parts.proofs.Words
use Words.{◌≡◌, ◌⊎◌, ◌≤◌, ◌∙◌, ◌+◌, ◌==◌, ◌&&◌, ◌||◌, not, ℕ, Bool, true, false, List, [], ◌∷◌, ◌++◌, length, refl, sym, ap, and_parts}
use Words.{arith, nat_tests, eqb-true, Body, Event, Start}
use Words.body
use Words.event
use Rattle.arj_law_runs.specs.follow.Frames.{are_so, frame_fits}
use Rattle.arj_law_runs.proofs.follow.Walking.{behind_all}
use Rattle.arj_model.specs.CauseNodes.{delivers, may_halt, restarts}
use Rattle.arj_model.specs.CauseSpans.{Here, behind}
use Rattle.arj_model.specs.Follows.{AnswerFits}
use Rattle.arj_model.specs.Past.{Asked}
use Rattle.arj_model.specs.Refusals.{is_down, is_first, open_frames}
use Rattle.arj_law_cause.specs.follow.lines.Lines.{NetFits, is_of_net}

-- behind own lines the rest is so too
pub behind_own : (h : Here) (own rest : List Body) → are_so frame_fits h (own ++ rest) ≡ true → are_so frame_fits (behind_all h own) rest
    ≡ true
behind_own h [] rest so = so
behind_own h (b ∷ own) rest so = behind_own (behind h b) own rest (and_parts (frame_fits h b) (are_so frame_fits (behind h b)
    (own ++ rest)) so).1

pub front_so : (h : Here) (bs more : List Body) → are_so frame_fits h (bs ++ more) ≡ true → are_so frame_fits h bs ≡ true
front_so h [] more so = refl
front_so h (b ∷ bs) more so =
    let p = and_parts (frame_fits h b) (are_so frame_fits (behind h b) (bs ++ more)) so in
    λ i. p.0 i && front_so (behind h b) bs more p.1 i

-- the event names no frame to be delivered
abbrev pub is_delivery_of : Event → Bool
is_delivery_of (event.Deliver k) = true
is_delivery_of e = false

-- none of these lines delivers a frame
abbrev pub is_taken : Body → Bool
is_taken (body.Got k) = true
is_taken (body.Void k) = true
is_taken b = false

-- one line
fits_net : (st : Start) (accepted : List Asked) (h : Here) (b : Body) → h.start ≡ st → (is_delivery_of h.event && is_taken b) ≡ false →
    (length h.lines == h.first) ≡ false ⊎ ((n : ℕ) → restarts n h.event ≡ false) → frame_fits h b ≡ true → is_of_net b ≡ true →
    AnswerFits st accepted h.lines b
fits_net st accepted h (body.Sent k from to carried) start plain behind_first fits is =
    eqb-true k _ (and_parts _ _ fits).0
fits_net st accepted h (body.Got k) start plain behind_first fits is = first h.event plain (and_parts _ _ fits).0
  where
    first : (e : Event) → (is_delivery_of e && true) ≡ false → delivers h k e ≡ true → is_first k (open_frames h.lines) ≡ true
    first (event.Deliver j) off its = absurd (cc off)
    first event.Settle off its = its
    first event.Quiesce off its = its
    first e off its = absurd (cc its)
fits_net st accepted h (body.Void k) start plain behind_first fits is = first h.event plain (and_parts _ _ fits).0
  where
    first : (e : Event) → (is_delivery_of e && true) ≡ false → delivers h k e ≡ true → is_first k (open_frames h.lines) ≡ true
    first (event.Deliver j) off its = absurd (cc off)
    first event.Settle off its = its
    first event.Quiesce off its = its
    first e off its = absurd (cc its)
fits_net st accepted h (body.Halted n) start plain behind_first fits is =
    ap (λ s. is_down s h.lines n) (sym start) ∙ up (is_down h.start h.lines n) (restarts n h.event) (length h.lines == h.first) refl refl
    (and_parts (may_halt n h.event) _ fits).1
  where
    up : (x r f : Bool) → restarts n h.event ≡ r → (length h.lines == h.first) ≡ f → (not x || (r && f)) ≡ true → x ≡ false
    up false r f er ef so = refl
    up true true true er ef so = absurd (Words.⊎_elim (λ off. let no_way : true ≡ false = sym ef ∙ off in cc)
        (λ off. let no_way : true ≡ false = sym er ∙ off n in cc) behind_first)
    up true true false er ef so = absurd (cc so)
    up true false f er ef so = absurd (cc so)
fits_net st accepted h b start plain behind_first fits is = absurd (cc is)

-- all of them
abbrev pub ArePlain : Event → List Body → Type 0
ArePlain e [] = Unit {0}
ArePlain e (b ∷ bs) = ((is_delivery_of e && is_taken b) ≡ false) × ArePlain e bs

pub net_fits : (st : Start) (accepted : List Asked) (h : Here) (bs : List Body) → h.start ≡ st → ArePlain h.event bs →
    ((length h.lines == h.first) ≡ false) ⊎ ((n : ℕ) → restarts n h.event ≡ false) → h.first ≤ length h.lines →
    are_so frame_fits h bs ≡ true → NetFits st accepted h.lines h.number bs
net_fits st accepted h [] start plain behind_first within so = tt
net_fits st accepted h (b ∷ bs) start plain behind_first within so =
    let p = and_parts (frame_fits h b) (are_so frame_fits (behind h b) bs) so in (
      λ is. fits_net st accepted h b start plain.0 behind_first p.0 is,
      net_fits st accepted (behind h b) bs start plain.1
          (Words.⊎_elim (λ off. Words.inl (later off)) (λ never. Words.inr never) behind_first) more p.1,
    )
  where
    longer : length (h.lines ++ record { event = h.number; body = b } ∷ []) ≡ length h.lines + 1
    longer = Words.length-append h.lines (record { event = h.number; body = b } ∷ [])

    more : h.first ≤ length (h.lines ++ record { event = h.number; body = b } ∷ [])
    more = let l = longer in omega (arith, within, l)

    later : (length h.lines == h.first) ≡ false → (length (h.lines ++ record { event = h.number; body = b } ∷ []) == h.first) ≡ false
    later off = by (length (h.lines ++ record { event = h.number; body = b } ∷ [])) longer
      where
        by : (m : ℕ) → m ≡ length h.lines + 1 → (m == h.first) ≡ false
        by m is = grind (arith, nat_tests, is, within)
