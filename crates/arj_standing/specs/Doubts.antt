-- What is prepared and not done, by a journal's lines.
use Rattle.std.specs.Prelude.{ℕ, List, [], ◌∷◌, ◌++◌, filter, Bool, true, false, ◌==◌, ◌&&◌, not}
use Rattle.arj_base.specs.declared.uid.Uid.{Uid}
use Rattle.arj_base.specs.Uid.{uid_eq}
use Rattle.arj_journal.specs.declared.body.Body.{Body}
use Rattle.arj_journal.specs.declared.body.Body.TheVariants as body
use Rattle.arj_journal.specs.declared.body.Line.{Line}
use Rattle.arj_journal.specs.declared.body.Role.{Role}
use Rattle.arj_journal.specs.declared.body.Role.TheVariants as role
use Rattle.arj_standing.specs.declared.doubts.Doubt.{Doubt}

-- the roles are the same
abbrev pub same_role : Role → Role → Bool
same_role role.Store role.Store = true
same_role role.Names role.Names = true
same_role _ _ = false

-- what the node has prepared in this role for this action
abbrev pub is_doubt : ℕ → Uid → Role → Doubt → Bool
is_doubt n u r d = (d.node == n) && (uid_eq d.action u && same_role d.role r)

-- what is in doubt after a line
abbrev pub doubts_after : Body → List Doubt → List Doubt
doubts_after (body.Prepared n u r) ds = ds ++ record { node = n; action = u; role = r } ∷ []
doubts_after (body.Done n u r e) ds = filter (λ d. not (is_doubt n u r d)) ds
doubts_after _ ds = ds

-- what is in doubt after these lines, from this on
abbrev pub doubts_from : List Doubt → List Line → List Doubt
doubts_from ds [] = ds
doubts_from ds (line ∷ lines) = doubts_from (doubts_after line.body ds) lines

-- what is in doubt behind a journal
abbrev pub doubts : List Line → List Doubt
doubts lines = doubts_from [] lines
