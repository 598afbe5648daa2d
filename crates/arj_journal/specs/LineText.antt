-- The spelling of journal lines. No two lines in form have one spelling.
use Rattle.std.specs.Prelude.{ℕ, List, [], ◌∷◌, ◌++◌, codes, Option, Some, None}
use Rattle.std.specs.List.{flat_map}
use Rattle.std.specs.Fmt.{decimal}
use Rattle.arj_base.specs.declared.uid.Uid.{Uid}
use Rattle.arj_base.specs.declared.binding.Binding.{Binding}
use Rattle.arj_base.specs.Uid.{uid_text, binding_text}
use Rattle.arj_journal.specs.declared.body.Body.{Body}
use Rattle.arj_journal.specs.declared.body.Body.TheVariants as body
use Rattle.arj_journal.specs.declared.body.Line.{Line}
use Rattle.arj_journal.specs.declared.body.Difference.{Difference}
use Rattle.arj_journal.specs.declared.body.Difference.TheVariants as difference
use Rattle.arj_journal.specs.declared.body.Cause.{Cause}
use Rattle.arj_journal.specs.declared.body.Cause.TheVariants as cause
use Rattle.arj_journal.specs.declared.line_kind.CauseKind.TheVariants as cause_kind
use Rattle.arj_journal.specs.declared.line_kind.DifferenceKind.TheVariants as difference_kind
use Rattle.arj_journal.specs.declared.line_kind.LineKind.TheVariants as line
use Rattle.arj_text.specs.declared.label.Label.{Label}
use Rattle.arj_text.specs.Label.{name}
use Rattle.arj_journal.specs.LineWords.{cause_word, difference_word, frame_text, kind_text, line_word, part_text, role_text, which_text}
use Rattle.arj_journal.specs.LineWords.{yes_text}
use Rattle.arj_journal.specs.ScriptText.{labelled}
use Rattle.arj_text.specs.Words.{space, number_word, hex, list_text, mode_text, end_text, op_text}

-- a space and a Uid
abbrev pub uid_word : Uid → List ℕ
uid_word u = space ++ uid_text u

-- a space and a binding
abbrev pub binding_word : Binding → List ℕ
binding_word b = space ++ binding_text b

-- the parent of an action, or none
abbrev pub parent_text : Option Label → List ℕ
parent_text None = codes "-"
parent_text (Some l) = name l

-- what was had and what is there now
abbrev pub difference_text : Difference → List ℕ
difference_text (difference.Inc had now) = difference_word difference_kind.Inc ++ (number_word had ++ number_word now)
difference_text (difference.Bind had now) = difference_word difference_kind.Bind ++ (binding_word had ++ binding_word now)

-- holder, mode and node of a conflict
abbrev pub conflict_words : List ℕ → Uid → List ℕ → ℕ → List ℕ
conflict_words front holder mode node = front ++ (uid_word holder ++ (space ++ (mode ++ number_word node)))

-- why an action aborted
abbrev pub cause_text : Cause → List ℕ
cause_text cause.Asked = cause_word cause_kind.Asked
cause_text cause.Doomed = cause_word cause_kind.Doomed
cause_text (cause.Lost n) = cause_word cause_kind.Lost ++ number_word n
cause_text (cause.Conflict holder mode n) = conflict_words (cause_word cause_kind.Conflict) holder (mode_text mode) n
cause_text (cause.Changed n d) = cause_word cause_kind.Changed ++ (number_word n ++ (space ++ difference_text d))
cause_text (cause.Old n x version) = cause_word cause_kind.Old ++ (number_word n ++ (number_word x ++ number_word version))
cause_text (cause.NoStores x) = cause_word cause_kind.NoStores ++ number_word x
cause_text (cause.Listed x n) = cause_word cause_kind.Listed ++ (number_word x ++ number_word n)

-- what a line says
abbrev pub body_text : Body → List ℕ
body_text (body.Began l k u p) = labelled (line_word line.Began) l ++ (space ++ (kind_text k ++ (uid_word u ++ (space ++ parent_text p))))
body_text (body.Ok l x op answer) = labelled (line_word line.Ok) l ++ (number_word x ++ (space ++ (op_text op ++ (codes " = " ++ answer))))
body_text (body.Includes l x n) = labelled (line_word line.Includes) l ++ (number_word x ++ number_word n)
body_text (body.Conflict l holder mode n) = conflict_words (labelled (line_word line.Conflict) l) holder (mode_text mode) n
body_text (body.Lost l n) = labelled (line_word line.Lost) l ++ number_word n
body_text (body.Changed l n d) = labelled (line_word line.Changed) l ++ (number_word n ++ (space ++ difference_text d))
body_text (body.Committing l) = labelled (line_word line.Committing) l
body_text (body.Committed l) = labelled (line_word line.Committed) l
body_text (body.Ended l) = labelled (line_word line.Ended) l
body_text (body.Aborted l c) = labelled (line_word line.Aborted) l ++ (space ++ cause_text c)
body_text (body.GaveUp l n) = labelled (line_word line.GaveUp) l ++ number_word n
body_text (body.Excluded l x n) = labelled (line_word line.Excluded) l ++ (number_word x ++ number_word n)
body_text (body.Granted n u o mode) = line_word line.Granted ++ (number_word n ++ (uid_word u ++ (uid_word o ++ (space ++ mode_text mode))))
body_text (body.Lowered n u o) = line_word line.Lowered ++ (number_word n ++ (uid_word u ++ uid_word o))
body_text (body.Bound x b n) = line_word line.Bound ++ (number_word x ++ (binding_word b ++ number_word n))
body_text (body.Active n x b) = line_word line.Active ++ (number_word n ++ (number_word x ++ binding_word b))
body_text (body.Told n u e p) = line_word line.Told ++ (number_word n ++ (uid_word u ++ (space ++ (end_text e ++ (space ++ part_text p)))))
body_text (body.Prepared n u r) = line_word line.Prepared ++ (number_word n ++ (uid_word u ++ (space ++ role_text r)))
body_text (body.Done n u r e) = line_word line.Done ++ (number_word n ++ (uid_word u ++ (space ++ (role_text r ++ (space ++ end_text e)))))
body_text (body.Sent k m n f) = line_word line.Sent ++ (number_word k ++ (number_word m ++ (number_word n ++ (space ++ frame_text f))))
body_text (body.Got k) = line_word line.Got ++ number_word k
body_text (body.Void k) = line_word line.Void ++ number_word k
body_text (body.Dropped k) = line_word line.Dropped ++ number_word k
body_text (body.Halted n) = line_word line.Halted ++ number_word n
body_text (body.Up n i) = line_word line.Up ++ (number_word n ++ number_word i)
body_text (body.Armed n) = line_word line.Armed ++ number_word n
body_text (body.Recovered n u) = line_word line.Recovered ++ (number_word n ++ uid_word u)
body_text (body.Refused c) = line_word line.Refused ++ number_word c
body_text (body.Entry x v servers stores) =
    line_word line.Entry ++ (number_word x ++ (number_word v ++ (space ++ (list_text servers ++ (space ++ list_text stores)))))
body_text (body.Copy n x v u payload) =
    line_word line.Copy ++ (number_word n ++ (number_word x ++ (number_word v ++ (uid_word u ++ (space ++ hex payload)))))
body_text (body.Quiet b) = line_word line.Quiet ++ (space ++ yes_text b)
body_text (body.Bad n) = line_word line.Bad ++ number_word n
body_text (body.Limit w) = line_word line.Limit ++ (space ++ which_text w)

-- the number of the event, a space, what the line says, and the line's end
abbrev pub line_text : Line → List ℕ
line_text l = decimal l.event ++ (space ++ (body_text l.body ++ 10 ∷ []))

-- the text of a journal
abbrev pub text : List Line → List ℕ
text ls = flat_map line_text ls
