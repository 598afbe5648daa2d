-- What stands behind one line more.
use Rattle.std.proofs.Common.{◌≡◌, ℕ, suc, ◌+◌, List, [], ◌∷◌, ◌++◌, length, Bool, true, false, cond, None, Some}
use Rattle.std.proofs.Common.{refl, sym, ◌∙◌, ap, arith}
use Rattle.std.specs.Option.{option_map}
use Rattle.arj_base.specs.declared.uid.Uid.{Uid}
use Rattle.arj_journal.specs.declared.body.Line.{Line}
use Rattle.arj_model.specs.Actions.{Act, acts, acts_after, acts_from, path, top_in}
use Rattle.arj_standing.proofs.Paths.{named}
use Rattle.arj_standing.specs.Begun.{AreBegun, links, links_named, top_in_links}
use Rattle.arj_standing.specs.declared.begun.Begun.{Begun}
use Rattle.arj_start.specs.Kinds.{is_serial}
use Rattle.arj_text.specs.Label.{name}
use Rattle.arj_text.specs.declared.label.Label.{Label}
use Rattle.arj_pending.specs.Commits.{called_by, commits_after, delivered_after, prepares_after}
use Rattle.arj_pending.specs.declared.kept.Commit.{Commit}
use Rattle.arj_pending.specs.Pends.{ArePrepared, Behind, behind, behind_from, behind_line, kept, pends_after}
use Rattle.arj_pending.specs.declared.kept.Prepares.{Prepares}

from_append : (flags : List Bool) (us : List Act) (at : ℕ) (b : Behind) (ls : List Line) (l : Line) →
    behind_from flags us at b (ls ++ l ∷ []) ≡ behind_line flags (acts_from us ls) (at + length ls) l (behind_from flags us at b ls)
from_append flags us at b [] l = ap (λ n. behind_line flags us n l b) (none_more at)
  where
    none_more : (n : ℕ) → n ≡ n + 0
    none_more n = omega arith
from_append flags us at b (k ∷ ls) l =
    from_append flags (acts_after us k.body) (at + 1) (behind_line flags us at k b) ls l
    ∙ ap (λ n. behind_line flags (acts_from us (k ∷ ls)) n l (behind_from flags us at b (k ∷ ls))) (one_more at (length ls))
  where
    one_more : (n m : ℕ) → n + 1 + m ≡ n + suc m
    one_more n m = omega arith

abbrev start : Behind
start = record { commits = []; prepares = []; delivered = None; pends = [] }

-- what is kept with one line more, part by part
pub taken : (flags : List Bool) (lines : List Line) (line : Line) (at : ℕ) (old new : Prepares) → at ≡ length lines
    → ArePrepared flags lines old
    → new.pends.items ≡ pends_after flags line.event at line.body (kept old)
    → new.commits.items ≡ commits_after (acts lines) at line.body old.commits.items
    → new.prepares.items ≡ prepares_after at line.body old.prepares.items
    → new.delivered ≡ delivered_after line.event line.body old.delivered
    → ArePrepared flags (lines ++ line ∷ []) new
taken flags lines line at old new place are pends commits prepares delivered = record {
  commits = commits ∙ ap (λ b. b.commits) more;
  prepares = prepares ∙ ap (λ b. b.prepares) more;
  delivered = delivered ∙ ap (λ b. b.delivered) more;
  pends = pends ∙ ap (λ b. b.pends) more;
}
  where
    here : at ≡ 0 + length lines
    here = omega (arith, place)

    was : kept old ≡ behind flags lines
    was = λ i. record { commits = are.commits i; prepares = are.prepares i; delivered = are.delivered i; pends = are.pends i }

    more : behind_line flags (acts lines) at line (kept old) ≡ behind flags (lines ++ line ∷ [])
    more = (λ i. behind_line flags (acts lines) (here i) line (was i)) ∙ sym (from_append flags [] 0 start lines line)

-- the top of a path, by its links
top_uid : (f : Uid → Commit) (p : List Act) → option_map f (top_in_links (links p)) ≡ option_map (λ a. f a.uid) (top_in p)
top_uid f [] = refl
top_uid f (a ∷ []) = by (is_serial a.kind)
  where
    by : (b : Bool) → option_map f (cond b None (Some a.uid)) ≡ option_map (λ d. f d.uid) (cond b None (Some a))
    by true = refl
    by false = refl
top_uid f (a ∷ b ∷ p) = by (is_serial a.kind)
  where
    by : (t : Bool) → option_map f (cond t (Some b.uid) (Some a.uid)) ≡ option_map (λ d. f d.uid) (cond t (Some b) (Some a))
    by true = refl
    by false = refl

-- a commit that is called, by what is kept of the actions that have begun
pub called_is : (us : List Act) (bs : List Begun) → AreBegun us bs → (l : Label) (at : ℕ)
    → option_map (called_by l at) (top_in_links (links_named (name l) bs)) ≡ option_map (λ a. called_by l at a.uid) (top_in (path us (name l)))
called_is us bs has l at =
    ap (λ p. option_map (called_by l at) (top_in_links p)) (named us bs has (name l)) ∙ top_uid (called_by l at) (path us (name l))
