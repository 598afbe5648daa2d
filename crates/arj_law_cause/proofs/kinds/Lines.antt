-- Rows of what is known of each line by the lines before it alone.
use Rattle.arj_law_parts.proofs.Words
use Words.{◌≡◌, ◌∙◌, ◌&&◌, ◌||◌, not, Bool, true, false, List, [], ◌∷◌, ◌++◌, refl, sym, ap, append-nil, append_assoc, Body, Event}
use Words.{Header, Line, Start}
use Words.{numbered, ◌+◌, and_parts}
use Rattle.arj_law_runs.specs.follow.Frames.{are_so}
use Rattle.arj_model.specs.CauseSpans.{Here, behind, here_at}
use Rattle.arj_model.specs.Caused.{has_cause}
use Rattle.arj_model.specs.Follows.{Runs}
use Rattle.arj_model.specs.Past.{Along, Past, block, next}
use Rattle.arj_law_cause.specs.kinds.Rows.{RowStep, TestedStep, row, tested}

-- the lines behind a run so far
pub more_lines : (P : Past → Event → List Body → Type 0) (es : List Event) (p end : Past) → Along P p es end →
    (more : List Line) × (end.lines ≡ p.lines ++ more)
more_lines P [] p end a = ([], ap (λ (q : Past). q.lines) (sym a) ∙ sym (append-nil p.lines))
more_lines P (e ∷ es) p end a =
    let r = more_lines P es (next p e a.0) end a.2 in
    (block (p.count + 1) a.0 ++ r.0, r.1 ∙ append_assoc p.lines (block (p.count + 1) a.0) r.0)

module _ (T : List Line → Body → Type 0) (of : Body → Bool) (to : (h : Here) (b : Body) → of b ≡ true → T h.lines b → has_cause h b ≡ true)
    (lines : List Line) (each : (before : List Line) (line : Line) (behind : List Line) → lines ≡ before ++ line ∷ behind →
    T before line.body)
  where
    abbrev kind : Here → Body → Bool
    kind h = of

    lines_so : (h : Here) (bs : List Body) (more : List Line) → lines ≡ h.lines ++ (numbered h.number bs ++ more) →
        are_so (row kind) h bs ≡ true
    lines_so h [] more is = refl
    lines_so h (b ∷ bs) more is =
        λ i. one (of b) refl i && lines_so (behind h b) bs more
        (is ∙ sym (append_assoc h.lines (record { event = h.number; body = b } ∷ []) (numbered h.number bs ++ more))) i
      where
        one : (x : Bool) → of b ≡ x → (not x || has_cause h b) ≡ true
        one false other = refl
        one true its = to h b its (each h.lines (record { event = h.number; body = b }) (numbered h.number bs ++ more) is)

    along_so : (hd : Header) (P : Past → Event → List Body → Type 0) (es : List Event) (p end : Past) (ending : List Line) →
        lines ≡ end.lines ++ ending → Along P p es end → Along (RowStep kind hd) p es end
    along_so hd P [] p end ending is a = a
    along_so hd P (e ∷ es) p end ending is a =
        let r = more_lines P es (next p e a.0) end a.2 in (
          a.0,
          lines_so (here_at hd p e a.0) a.0 (r.0 ++ ending)
              (is ∙ ap (λ ls. ls ++ ending) r.1 ∙ append_assoc (p.lines ++ block (p.count + 1) a.0) r.0 ending
              ∙ append_assoc p.lines (block (p.count + 1) a.0) (r.0 ++ ending)),
          along_so hd P es (next p e a.0) end ending is a.2,
        )

    -- whatever else is known of the run's events
    pub lines_row : (hd : Header) (P : Past → Event → List Body → Type 0) (st : Start) (es : List Event) → Runs P st es lines →
        Runs (RowStep kind hd) st es lines
    lines_row hd P st es r = (r.0, r.1, along_so hd P es _ r.0 r.1 r.3 r.2, r.3, r.4)

-- Rows of what is known of each line by the lines before it, and by a test that lines of the kind pass.
module _ (T : List Line → Body → Type 0) (of : Body → Bool) (test goal : Here → Body → Bool) (to : (h : Here) (b : Body) → of b ≡ true →
    T h.lines b → test h b ≡ true → goal h b ≡ true)
    (lines : List Line) (each : (before : List Line) (line : Line) (behind : List Line) → lines ≡ before ++ line ∷ behind →
    T before line.body)
  where
    abbrev of_kind : Here → Body → Bool
    of_kind h = of

    so_with : (h : Here) (bs : List Body) (more : List Line) → lines ≡ h.lines ++ (numbered h.number bs ++ more) →
        are_so (tested test of_kind) h bs ≡ true → are_so (tested goal of_kind) h bs ≡ true
    so_with h [] more is passes = refl
    so_with h (b ∷ bs) more is passes =
        let p = and_parts (tested test of_kind h b) (are_so (tested test of_kind) (behind h b) bs) passes in
        λ i. one (of b) refl p.0 i && so_with (behind h b) bs more
        (is ∙ sym (append_assoc h.lines (record { event = h.number; body = b } ∷ []) (numbered h.number bs ++ more))) p.1 i
      where
        one : (x : Bool) → of b ≡ x → (not (of b) || test h b) ≡ true → (not x || goal h b) ≡ true
        one false other passed = refl
        one true its passed = to h b its (each h.lines (record { event = h.number; body = b }) (numbered h.number bs ++ more) is)
            ((λ i. not (sym its i) || test h b) ∙ passed)

    along_with : (hd : Header) (es : List Event) (p end : Past) (ending : List Line) → lines ≡ end.lines ++ ending →
        Along (TestedStep test of_kind hd) p es end → Along (TestedStep goal of_kind hd) p es end
    along_with hd [] p end ending is a = a
    along_with hd (e ∷ es) p end ending is a =
        let r = more_lines (TestedStep test of_kind hd) es (next p e a.0) end a.2 in (
          a.0,
          so_with (here_at hd p e a.0) a.0 (r.0 ++ ending)
              (is ∙ ap (λ ls. ls ++ ending) r.1 ∙ append_assoc (p.lines ++ block (p.count + 1) a.0) r.0 ending
              ∙ append_assoc p.lines (block (p.count + 1) a.0) (r.0 ++ ending)) a.1,
          along_with hd es (next p e a.0) end ending is a.2,
        )

    pub tested_row : (hd : Header) (st : Start) (es : List Event) → Runs (TestedStep test of_kind hd) st es lines →
        Runs (TestedStep goal of_kind hd) st es lines
    tested_row hd st es r = (r.0, r.1, along_with hd es _ r.0 r.1 r.3 r.2, r.3, r.4)
