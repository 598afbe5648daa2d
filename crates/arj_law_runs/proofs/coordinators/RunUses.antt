-- In every run each coordinator has the labels of its actions, and who took part in its commits.
use Rattle.arj_law_parts.proofs.Words
use Words.{◌≡◌, ◌⊎◌, ◌∙◌, ℕ, zero, suc, Bool, true, false, cond, List, [], ◌∷◌, ◌++◌, length, refl, sym, ap, inl, inr, ⊎_elim, Option, Some}
use Words.{None, slice_get, in_from, again_all, again_now, begin_action, next_ask, next_node, plan_of, Calling, Committing, Coord, Doing}
use Words.{Idle, Now, doing_of, new_coord, no_root, Intent, acked, acked_by, acked_left, at_uid, has, without_number, parent_of, Branch}
use Words.{at_place, branch_of, ended_so, ends_of, root_of, is_aborted, next_uid, path_below, End, Kind, Label, Path, Uid}
use Words.commit
use Words.ending
use Rattle.arj_law_runs.proofs.Terms
use Terms.{names_kept, same_acked, same_acts, same_again, same_heard, get_more, grown_cases, grown_still, work_there, KnowsTops, KnowsUses}
use Rattle.arj_law_runs.proofs.coordinators
use coordinators.{NewNames.names_begin, NewNames.names_new, RunCoords.IsKept}
use coordinators.CoordUses.{Any, Uses, uses_all, uses_of}
use coordinators.UsesCommits.{uses_acts, uses_asks, uses_heard}
use Rattle.arj_law_runs.specs.coordinators.Uses.{IsUsed}

-- ---- a coordinator that starts

uses_new : (node inc : ℕ) (telling : List (Uid × Intent)) → KnowsUses (record (new_coord node inc) { telling = telling })
uses_new node inc telling = record {
  paths = λ root us i. absurd (none us i);
  plans = λ u q m does is. absurd (no_doing u q does);
  alone = λ u a us i on. absurd (none us i);
}
  where
    none : (us : List Uid) → IsUsed us no_root → ⊥
    none us (inl (s, there, is)) = in_from s [] there
    none us (inr (j, there, is)) = in_from j [] there

    no_doing : (u : Uid) (q : Doing) → doing_of u (new_coord node inc) ≡ Some q → ⊥
    no_doing u q at = by (_) u.num at
      where
        by : (x : Bool) (j : ℕ) → cond x (at_place j []) None ≡ Some q → ⊥
        by true zero is = cc is
        by true (suc j) is = cc is
        by false j is = cc is

-- ---- ticks and acknowledgements

uses_again : (ds : List Doing) (c : Coord) → Uses Any c → Uses Any (again_all ds c).part
uses_again [] c u = u
uses_again (d ∷ ds) c u = uses_again ds (again_now c d.now).part (now d.now)
  where
    now : (n : Now) → Uses Any (again_now c n).part
    now Idle = u
    now (Calling s) = uses_asks s.path s.req ((next_node s, next_ask (ends_of (root_of s.path) c.tree) s) ∷ []) c u
    now (Committing m) = uses_asks (plan_of m).path (plan_of m).req (commit.waiting m) c u

-- an acknowledgement changes what is told alone
uses_told : (c : Coord) (telling : List (Uid × Intent)) → Uses Any c → Uses Any (record c { telling = telling })
uses_told c telling k = record {
  paths = k.paths;
  plans = k.plans;
  alone = λ w so q. k.alone w so (record {
    branch = q.branch;
    doing = q.doing;
    found = q.found;
    does = q.does;
    committed = q.committed;
    unnested = q.unnested;
    unserial = q.unserial;
    took = q.took;
  });
}

uses_acked : (from : ℕ) (u : Uid) (intents : List (Uid × Intent)) (c : Coord) → Uses Any c → Uses Any (acked from u intents c).part
uses_acked from u intents c k = by (at_uid u c.telling)
  where
    left : (i : Intent) (ns : List ℕ) → Uses Any (acked_left u i intents c ns).part
    left i [] = uses_told c _ k
    left i (n ∷ ns) = uses_told c _ k

    by : (o : Option Intent) → Uses Any (acked_by from u intents c o).part
    by None = k
    by (Some i) = one (has i.nodes from)
      where
        one : (b : Bool) →
            Uses Any (cond b (acked_left u i intents c (without_number from i.nodes)) (record { part = c; outs = []; reply = None })).part
        one true = left i (without_number from i.nodes)
        one false = k

-- ---- an action begins

module _ (l : Label) (how : Kind) (parent : Option Label) (c : Coord) (works : length c.doings ≡ length c.tree.branches)
    (k : KnowsUses c) where
  abbrev fresh : Doing
  fresh = record { label = l; req = 0; now = Idle; took = [] }

  abbrev began : Coord
  began = (begin_action l how parent (parent_of parent c) c).part

  abbrev p : Path
  p = path_below how (parent_of parent c) (next_uid c.tree)

  -- actions at work: those that were there, and the new one
  doing_cases : (w : Uid) (q : Doing) → doing_of w began ≡ Some q → (doing_of w c ≡ Some q) ⊎ (fresh ≡ q)
  doing_cases w q is = by (_) is
    where
      place : (j : ℕ) → at_place j (c.doings ++ fresh ∷ []) ≡ Some q → (at_place j c.doings ≡ Some q) ⊎ (fresh ≡ q)
      place zero e = absurd (cc e)
      place (suc j) e = ⊎_elim (λ old. inl old) (λ last. inr last.1) (get_more j fresh q c.doings e)

      by : (b : Bool) → cond b (at_place w.num (c.doings ++ fresh ∷ [])) None ≡ Some q →
          (cond b (at_place w.num c.doings) None ≡ Some q) ⊎ (fresh ≡ q)
      by true at = place w.num at
      by false at = absurd (cc at)

  -- who was there is at work as it was
  old_doing : (w : Uid) (b : Branch) (q : Doing) → branch_of w c.tree ≡ Some b → doing_of w began ≡ Some q → doing_of w c ≡ Some q
  old_doing w b q found does = let d = work_there c works w b found in d.1 ∙ sym (still (_) d.0 d.1) ∙ does
    where
      there : (xs : List Doing) (j : ℕ) (d : Doing) → slice_get xs j ≡ Some d → slice_get (xs ++ fresh ∷ []) j ≡ Some d
      there [] j d e = absurd (cc e)
      there (x ∷ xs) zero d e = e
      there (x ∷ xs) (suc j) d e = there xs j d e

      at_there : (j : ℕ) (d : Doing) → at_place j c.doings ≡ Some d → at_place j (c.doings ++ fresh ∷ []) ≡ Some d
      at_there zero d e = absurd (cc e)
      at_there (suc j) d e = there c.doings j d e

      still : (x : Bool) (d : Doing) → cond x (at_place w.num c.doings) None ≡ Some d →
          cond x (at_place w.num (c.doings ++ fresh ∷ [])) None ≡ Some d
      still true d is = at_there w.num d is
      still false d is = absurd (cc is)

  uses_begun : KnowsUses began
  uses_begun = record {
    paths = λ root us i. let q = k.paths root us i in (q.0, q.1, grown_still how p c.tree q.0 q.1 q.2, q.3);
    plans = λ u q m does is. ⊎_elim (λ old. k.plans u q m old is) (λ new.
        let no_way : ◌≡◌ {A = Now} Idle (Committing m) = ap (λ (d : Doing). d.now) new ∙ is in absurd (cc no_way)) (doing_cases u q does);
    alone = λ u a us i on. ⊎_elim
        (λ old. let x = k.alone u (record {
          branch = a.branch;
          doing = a.doing;
          found = old;
          does = old_doing u a.branch a.doing old a.does;
          committed = a.committed;
          unnested = a.unnested;
          unserial = a.unserial;
          took = a.took;
        }) us i on in (x.0, x.1, still x.0 (branch_of x.0 c.tree) refl x.2))
        (λ new. let no_way : ◌≡◌ {A = Option End} None (Some ending.Commit) = ap (λ (b : Branch). b.ended) new.1 ∙ a.committed in
        absurd (cc no_way))
        (grown_cases how p c.tree u a.branch a.found);
  }
    where
      still : (w : Uid) (o : Option Branch) → branch_of w c.tree ≡ o → is_aborted w c.tree ≡ true → is_aborted w began.tree ≡ true
      still w None none is = let no_way : false ≡ true = ap (λ x. ended_so ending.Abort x) (sym none) ∙ is in absurd (cc no_way)
      still w (Some b) found is =
          ap (λ x. ended_so ending.Abort x) (grown_still how p c.tree w b found) ∙ ap (λ x. ended_so ending.Abort x) (sym found) ∙ is

-- ---- all of it

pub tops_are_kept : IsKept KnowsTops
tops_are_kept = record {
  new = λ node inc telling. record { names = names_new node inc telling; uses = uses_new node inc telling };
  hears = λ actions paths tree from a r intents c good q. record {
    names = names_kept c _ (same_heard from a r intents c) q.names;
    uses = uses_all _ (uses_heard actions paths tree from a r intents c good (uses_of c q.uses));
  };
  acks = λ from u intents c q. record {
    names = names_kept c _ (same_acked from u intents c) q.names;
    uses = uses_all _ (uses_acked from u intents c (uses_of c q.uses));
  };
  does = λ actions paths tree intents c good q hd i none other. record {
    names = names_kept c _ (same_acts i intents c other) q.names;
    uses = uses_all _ (uses_acts actions paths tree intents c good (uses_of c q.uses) hd i none other);
  };
  begins = λ actions begun paths tree l k parent c good may none q.
      record { names = names_begin l k parent c q.names; uses = uses_begun l k parent c (let n = q.names in n.count) q.uses };
  asks = λ ds c q. record { names = names_kept c _ (same_again ds c) q.names; uses = uses_all _ (uses_again ds c (uses_of c q.uses)) };
}
