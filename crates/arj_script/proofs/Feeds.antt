-- What a feed adds to the lines that ended, and to the line in hand behind them.
use Rattle.std.proofs.Common.{◌≡◌, ℕ, ◌+◌, List, [], ◌∷◌, ◌++◌, length, sym, ◌∙◌, ap, append_assoc}
use Rattle.std.proofs.lemmas.List.{append-nil}
use Rattle.arj_script.specs.declared.cutter.Full.TheVariants as full
use Rattle.arj_script.specs.Cutting.{Takes}
use Rattle.arj_script.specs.Input.{Stopped, ended_from, rest_from, ended_lines, rest_line, last_line, lines_of}
use Rattle.arj_script.proofs.Cutting.{ended_from-append, rest_from-append}

-- the line in hand goes on
pub fed_none : (most : ℕ) (used line bytes after : List ℕ) → line ≡ rest_line used → Takes most line bytes full.No after →
    (ended_lines (used ++ bytes) ≡ ended_lines used) × (after ≡ rest_line (used ++ bytes))
fed_none most used line bytes after is t =
    let ended : ended_from (rest_line used) bytes ≡ [] = ap (λ l. ended_from l bytes) (sym is) ∙ t.0 in
    let rest : rest_from (rest_line used) bytes ≡ after = ap (λ l. rest_from l bytes) (sym is) ∙ t.1 in
    (ended_from-append [] used bytes ∙ (ap (λ ls. ended_lines used ++ ls) ended ∙ append-nil (ended_lines used)), sym (rest_from-append [] used bytes ∙ rest))

-- it ends
pub fed_line : (most : ℕ) (used line bytes after : List ℕ) → line ≡ rest_line used → Takes most line bytes full.Line after →
    (ended_lines (used ++ bytes) ≡ ended_lines used ++ after ∷ []) × (rest_line (used ++ bytes) ≡ [])
fed_line most used line bytes after is t =
    let ended : ended_from (rest_line used) bytes ≡ after ∷ [] = ap (λ l. ended_from l bytes) (sym is) ∙ t.0 in
    let rest : rest_from (rest_line used) bytes ≡ [] = ap (λ l. rest_from l bytes) (sym is) ∙ t.1 in
    (ended_from-append [] used bytes ∙ ap (λ ls. ended_lines used ++ ls) ended, rest_from-append [] used bytes ∙ rest)

-- it has a byte too many
pub fed_long : (most : ℕ) (used line bytes after : List ℕ) → line ≡ rest_line used → Takes most line bytes full.Long after →
    (ended_lines (used ++ bytes) ≡ ended_lines used) × (length (rest_line (used ++ bytes)) ≡ most + 1)
fed_long most used line bytes after is t =
    let ended : ended_from (rest_line used) bytes ≡ [] = ap (λ l. ended_from l bytes) (sym is) ∙ t.0 in
    let rest : length (rest_from (rest_line used) bytes) ≡ most + 1 = ap (λ l. length (rest_from l bytes)) (sym is) ∙ t.2 in
    (ended_from-append [] used bytes ∙ (ap (λ ls. ended_lines used ++ ls) ended ∙ append-nil (ended_lines used)), ap length (rest_from-append [] used bytes) ∙ rest)

-- more came than the lines behind a line need
pub lines_line : (stopped : Stopped) (used past : List ℕ) (done : List (List ℕ)) (line : List ℕ) → ended_lines used ≡ done ++ line ∷ [] →
    (tail : List (List ℕ)) × (lines_of stopped (used ++ past) ≡ done ++ line ∷ tail)
lines_line stopped used past done line e =
    let more = ended_from (rest_line used) past in
    let last = last_line stopped (rest_line (used ++ past)) in
    (more ++ last, ap (λ ls. ls ++ last) (ended_from-append [] used past ∙ ap (λ ls. ls ++ more) e) ∙ (append_assoc (done ++ line ∷ []) more last ∙ append_assoc done (line ∷ []) (more ++ last)))
