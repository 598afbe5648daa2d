-- Behind the limit of frames no event is run.
use Rattle.arj_law_parts.proofs.Words
use Words.{◌≡◌, ◌∙◌, ◌+◌, ◌≤◌, ◌||◌, ℕ, Bool, true, false, cond, List, [], ◌∷◌, ◌++◌, length, refl, sym, ap, Option, Some, None}
use Words.{AllByRecursion}
use Words.{list_any-append, append-nil, Event, Line, Arm, World, counted, first_reason, giving, happens, lacks_labels, limited, most_frames}
use Words.{no_labels, numbered, reasons, run_unless, Move, moved}
use Words.body
use Rattle.arj_law_runs.proofs.Terms.which
use Rattle.arj_law_runs.proofs.Terms.{says}
use Rattle.arj_law_parts.specs.steps.Writes.{node_refusal}
use Rattle.arj_law_runs.proofs.follow.Along.{event_of}
use Rattle.arj_law_runs.proofs.follow.Frames as frames
use Rattle.arj_law_runs.proofs.follow.Plain.{happens_so, none_limited}
use Rattle.arj_law_runs.proofs.follow.Refusing.{refused_leaves}
use Rattle.arj_model.specs.Follows.{is_frame_limit, is_limited}
use Rattle.arj_promise.specs.Runs.{HasWork}

module _ (m : Move) (w : World) (on : w.over ≡ false) (free : w.full ≡ false) (few : length w.frames ≤ most_frames)
    (works : AllByRecursion (λ (a : ℕ × Arm). HasWork a.1) m.falls) (before : is_limited w.lines ≡ false) where
  abbrev e : Event
  e = event_of m

  abbrev arm : Arm
  arm = let a = m.asked in a.arm

  abbrev u : World
  u = record w { arms = m.falls }

  abbrev t : World
  t = counted (record w { arms = m.falls })

  moved_is : (x : World) → run_unless e arm u (first_reason (reasons e u)) ≡ x → moved m w ≡ record x { arms = [] }
  moved_is x is = ap (λ (y : World). record y { arms = [] }) ((λ i. cond (on i) u (run_unless e arm u (first_reason (reasons e u)))) ∙ is)

  more_lines : (more : List Line) → is_limited more ≡ false → is_limited (w.lines ++ more) ≡ false
  more_lines more none = list_any-append (λ (l : Line). is_frame_limit l.body) w.lines more ∙ (λ i. before i || none i)

  -- where the run goes on, the limit wasn't met
  pub goes_on : (moved m w).over ≡ false → is_limited (moved m w).lines ≡ false
  goes_on over = by (first_reason (reasons e u)) refl
    where
      at : (x : World) → moved m w ≡ record x { arms = [] } → (ls : List Line) → x.lines ≡ ls → is_limited ls ≡ false →
          is_limited (moved m w).lines ≡ false
      at x is ls lines none = ap (λ (y : World). is_limited y.lines) is ∙ ap is_limited lines ∙ none

      ends : (x : World) → moved m w ≡ record x { arms = [] } → x.over ≡ true → is_limited (moved m w).lines ≡ false
      ends x is past = let no_way : true ≡ false = sym past ∙ sym (ap (λ (y : World). y.over) is) ∙ over in absurd (cc no_way)

      run : first_reason (reasons e t) ≡ None → (x : World) → x ≡ happens e arm t → moved m w ≡ record (limited x) { arms = [] } →
          is_limited (moved m w).lines ≡ false
      run none x same is = full x.full refl
        where
          here : (o : Option ℕ) → node_refusal e t ≡ o → x.full ≡ false → is_limited (moved m w).lines ≡ false
          here o granted fits = refused o granted (is ∙ ap (λ (y : World). record y { arms = [] })
              (λ i. cond (fits i) (says (body.Limit which.Frames ∷ []) (record x { over = true })) x))
            where
              refused : (o : Option ℕ) → node_refusal e t ≡ o → moved m w ≡ record x { arms = [] } → is_limited (moved m w).lines ≡ false
              refused (Some c) why now =
                  let l = refused_leaves c e arm t few works why in
                  at x now (w.lines ++ numbered t.event (body.Refused c ∷ [])) (ap (λ (y : World). y.lines) same ∙ l.lines)
                  (more_lines (numbered t.event (body.Refused c ∷ [])) refl)
              refused None why now =
                  let s = happens_so w.lines w.start e arm t why
                  (record { start = refl; more = []; lines = sym (append-nil w.lines); none = tt }) in
                  at x now (w.lines ++ s.more) (ap (λ (y : World). y.lines) same ∙ s.lines) (more_lines s.more (none_limited s.more s.none))

          full : (b : Bool) → x.full ≡ b → is_limited (moved m w).lines ≡ false
          full true met = ends (limited x) is
              (λ i. (cond (met i) (says (body.Limit which.Frames ∷ []) (record x { over = true })) x).over)
          full false fits = here (node_refusal e t) refl fits

      labels : first_reason (reasons e u) ≡ None → (b : Bool) → lacks_labels (giving e u) u ≡ b → is_limited (moved m w).lines ≡ false
      labels none true lacks = ends (no_labels u) (moved_is (no_labels u) (ap (run_unless e arm u) none
          ∙ (λ i. cond (lacks i) (no_labels u) (limited (happens e arm t))))) refl
      labels none false has = run (ap first_reason (frames.same_reasons e u) ∙ none) (happens e arm t) refl
          (moved_is (limited (happens e arm t)) (ap (run_unless e arm u) none
          ∙ (λ i. cond (has i) (no_labels u) (limited (happens e arm t)))))

      by : (o : Option ℕ) → first_reason (reasons e u) ≡ o → is_limited (moved m w).lines ≡ false
      by (Some c) refused =
          let x = says (body.Refused c ∷ []) t in
          at x (moved_is x (ap (run_unless e arm u) refused)) (w.lines ++ numbered t.event (body.Refused c ∷ [])) refl
          (more_lines (numbered t.event (body.Refused c ∷ [])) refl)
      by None none = labels none (lacks_labels (giving e u) u) refl
