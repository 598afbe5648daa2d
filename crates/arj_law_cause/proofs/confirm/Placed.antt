-- A coordinator where it is reached: its actions began, and have the journal's paths.
use Rattle.arj_law_parts.proofs.Words
use Words.{◌≡◌, ◌∙◌, ℕ, true, List, Some, sym, ap, subst, in_from}
use Words.{uid_eq, uid_same, is_on, first_uid, uids_of, Uid, Path, top_of, Header, Node, Parts, Seen, Branch, branch_of}
use Words.{root_of, is_own}
use Rattle.arj_law_lock_view.proofs.Terms.{Action, AreBegun, IsTree, action_of, begun_tree, paths_of}
use Rattle.arj_law_lock_view.proofs.facts.Kept.{Place}
use Rattle.arj_law_lock_view.proofs.moments.Answers.{Known, known_keep}
use Rattle.arj_law_lock_view.proofs.records.Tops.{top_on_path}
use Rattle.arj_law_parts.proofs.moves.Happens.{keeps_asked}
use Rattle.arj_law_runs.proofs.Terms.{IsGoodOf, IsMemory, IsUp, path_found}
use Rattle.arj_law_runs.proofs.calls.CoordKnown.{root_own}
use Rattle.arj_law_runs.proofs.follow.Halts.{KnowsAll, halts_keep}
use Rattle.arj_law_runs.proofs.journal.{Models.its_acts, Paths.IsNamed, Paths.paths_keep}
use Rattle.arj_law_runs.specs.journal.Book.{book, new_book}
use Rattle.arj_law_runs.specs.journal.Knows.{KnowsUp}
use Rattle.arj_law_runs.specs.journal.Paths.{IsAlike}
use Rattle.arj_law_runs.specs.journal.Right.{AreRight, has_act}
use Rattle.arj_law_serial.proofs.Terms.{Act, AreAlike, acts, any_in, path_by, uids}
use Rattle.arj_law_serial.proofs.tables.Holders.{path_fits}
use Rattle.arj_law_cause.proofs.confirm.Reached.{Reached, reached_has}
use Rattle.arj_law_cause.proofs.rows.Entered.{above_root}
use Rattle.arj_law_cause.proofs.rows.Holders.{alike_to}
use Rattle.arj_law_cause.proofs.waits.waiting.Acting as acting

module _ (hd : Header) (Z : Seen) (reached : Reached hd Z) (k : ℕ) (n : Node) (t : Parts) (here : Z.nodes k ≡ Some n)
    (live : n.live ≡ Some t) where
  pub all : KnowsAll Z
  all = reached_has hd KnowsAll (keeps_asked hd KnowsAll (halts_keep hd)) Z reached

  pub knows : KnowsUp (book Z.lines) (let d = n.disk in d.intents) t.coord
  knows = acting.up Z all k n t here live

  pub right : AreRight new_book Z.lines
  right = let w = acting.written Z all k n t here live in w.right

  pub pathed : IsNamed Z × IsAlike Z
  pathed = reached_has hd (λ M. IsNamed M × IsAlike M) (keeps_asked hd (λ M. IsNamed M × IsAlike M) (paths_keep hd)) Z reached

  abbrev pub begun : List Action
  begun = pathed.1.0

  pub good : IsGoodOf pathed.1.0 Z
  good = pathed.1.1.0

  known : Known Z
  known = reached_has hd Known (keeps_asked hd Known (known_keep hd)) Z reached

  pub place : Place Z.sent k t.coord
  place =
      let p = good.places k n here in
      let u : IsUp begun Z.sent Z.labels k (let d = n.disk in d.inc) t =
      subst (IsMemory begun Z.sent Z.labels k (let d = n.disk in d.inc)) live p.memory in record {
        actions = begun;
        begun = good.begun;
        good = (let g = u.good (paths_of begun) (begun_tree begun good.begun)
            (path_found begun good.begun) in g.coord);
        numbered = u.numbered;
        faithful = u.faithful;
        binds = (let w = known.0.0.1 in w.nodes k n t here live);
      }

  pub alike : AreAlike begun (acts Z.lines)
  alike = subst (AreAlike begun) (its_acts Z.lines right) pathed.1.1.1

  -- the path of an action of its tree is the journal's
  pub path_at : (w : Uid) (q : Branch) → branch_of w t.coord.tree ≡ Some q → uids (path_by (acts Z.lines) w) ≡ uids_of q.path
  unfolding pathed place
  path_at w q at =
      let g = place.good in
      let f = path_fits begun (acts Z.lines) good.begun alike (action_of q) (in_from (action_of q) begun (g.known w q at)) in
      ap (λ v. uids (path_by (acts Z.lines) v)) (sym (g.tree.lists.places w q at)) ∙ (let z = f.actor_is in z.path_is)

  pub began : (w : Uid) (q : Branch) → branch_of w t.coord.tree ≡ Some q → has_act (acts Z.lines) w ≡ true
  unfolding pathed place
  began w q at =
      let g = place.good in
      let a = alike_to begun (acts Z.lines) alike (action_of q) (in_from (action_of q) begun (g.known w q at)) in
      any_in (λ (y : Act). uid_eq y.uid w) a.0 (acts Z.lines) a.1 (ap (λ v. uid_eq v w) (a.2 ∙ g.tree.lists.places w q at) ∙ uid_same w)

  pub all_begun : AreBegun begun
  all_begun = good.begun

  pub tree : IsTree (paths_of begun)
  tree = begun_tree begun good.begun

  -- the root of an action of its tree is its own
  pub root_there : (w : Uid) (q : Branch) → branch_of w t.coord.tree ≡ Some q → is_own (root_of q.path) t.coord.tree ≡ true
  unfolding pathed place
  root_there w q at = root_own begun (paths_of begun) tree t.coord place.good w q at

  -- the top of a path of its tree began, and has its root
  pub top_began : (w : Uid) (q : Branch) (p : Path) → branch_of w t.coord.tree ≡ Some q → q.path ≡ p →
      (has_act (acts Z.lines) (top_of p) ≡ true) × (first_uid (uids (path_by (acts Z.lines) (top_of p))) ≡ root_of p)
  unfolding pathed place
  top_began w q p at same =
      let g = place.good in
      let d = above_root begun good.begun (action_of q) (in_from (action_of q) begun (g.known w q at)) (top_of p)
      (ap (λ z. is_on (uids_of z) (top_of p)) same ∙ top_on_path p) in
      let a = alike_to begun (acts Z.lines) alike d.0 d.1 in
      let f = path_fits begun (acts Z.lines) good.begun alike d.0 d.1 in (
        any_in (λ (y : Act). uid_eq y.uid (top_of p)) a.0 (acts Z.lines) a.1 (ap (λ v. uid_eq v (top_of p)) (a.2 ∙ d.2) ∙ uid_same (top_of p)),
        ap (λ v. first_uid (uids (path_by (acts Z.lines) v))) (sym d.2) ∙ ap first_uid (let z = f.actor_is in z.path_is) ∙ d.3
            ∙ ap (λ z. first_uid (uids_of z)) same,
      )
