-- What a coordinator does with states where it is acknowledged, asked and begins: it has and sends none that is new.
use Rattle.arj_law_parts.proofs.Words
use Words.{Bool, List, None, Option, Some, [], cond, false, not, suc, true, zero, ℕ, ◌&&◌, ◌||◌, ◌∷◌, ◌≡◌, End, Uid, uid_eq, Coord, Doing}
use Words.{new_coord, Intent, Served, acked, acked_by, acked_left, answer_decided, answer_query, answer_recorded, is_deferred}
use Words.{is_kept_commit, let_go, root_or_self, tell, tell_all, tolds_let_go, at_uid, has, put_uid, without_number, without_uid}
use Words.{tolds_again, at_place, branch_of, is_open, is_own}
use Words.ending
use Rattle.arj_law_disk_view.proofs.Terms.{is_over, AllSay, CoordIsSo, Fits, MayKeep, NowIsSo}
use Rattle.arj_law_disk_view.proofs.running.StateCoords.{both, tells}
use Rattle.arj_law_disk_view.proofs.running.StateInputs.{IsServed}

module _ (F : Fits) (keep : MayKeep F) where
  pub acks_so : (from : ℕ) (u : Uid) (intents : List (Uid × Intent)) (c : Coord) → CoordIsSo F c → IsServed F keep (acked from u intents c)
  acks_so from u intents c so = by (at_uid u c.telling)
    where
      told : (m : List (Uid × Intent)) → CoordIsSo F (record c { telling = m })
      told m = record { works = so.works; roots = so.roots }

      gone : (o : Option Intent) → AllSay F (tolds_let_go u (without_uid u intents) c o)
      gone None = tt
      gone (Some i) = each (not (uid_eq i.root u) && is_over (branch_of i.root c.tree))
        where
          each : (b : Bool) →
              AllSay F (cond b (tell_all i.root false ((i.root, ending.Abort) ∷ []) (let_go i.root (without_uid u intents) c i.nodes)) [])
          each true = tells F keep i.root false ((i.root, ending.Abort) ∷ []) (let_go i.root (without_uid u intents) c i.nodes)
          each false = tt

      left : (i : Intent) (ns : List ℕ) → IsServed F keep (acked_left u i intents c ns)
      left i [] = (told (without_uid u c.telling), (tt, gone (at_uid u intents)))
      left i (n ∷ ns) = (told (put_uid u (record i { nodes = n ∷ ns }) c.telling), tt)

      by : (o : Option Intent) → IsServed F keep (acked_by from u intents c o)
      by None = (so, tt)
      by (Some i) = each (has i.nodes from)
        where
          each : (b : Bool) → IsServed F keep (cond {A = Served Coord (Unit {0})} b (acked_left u i intents c (without_number from i.nodes))
              (record { part = c; outs = []; reply = None }))
          each true = left i (without_number from i.nodes)
          each false = (so, tt)

  pub query_so : (from : ℕ) (u : Uid) (intents : List (Uid × Intent)) (c : Coord) → AllSay F (answer_query from u intents c)
  query_so from u intents c = by (is_open u c.tree || is_deferred u intents from)
    where
      told : (root : Uid) (ack : Bool) (e : End) → AllSay F (tell root ack ((u, e) ∷ []) from ∷ [])
      told root ack e = ((tt, tt), tt)

      decided : AllSay F (answer_decided from u c)
      decided = each (is_kept_commit from u c)
        where
          each : (b : Bool) → AllSay F (cond b (tell (root_or_self u (branch_of u c.tree)) false ((u, ending.Commit) ∷ []) from ∷ [])
              (tell (root_or_self u (branch_of u c.tree)) false ((u, ending.Abort) ∷ []) from ∷ []))
          each true = told (root_or_self u (branch_of u c.tree)) false ending.Commit
          each false = told (root_or_self u (branch_of u c.tree)) false ending.Abort

      recorded_so : (o : Option Intent) → AllSay F (answer_recorded from u c o)
      recorded_so None = decided
      recorded_so (Some i) = each (has i.nodes from)
        where
          each : (b : Bool) → AllSay F (cond b (tell i.root true ((u, ending.Commit) ∷ []) from ∷ []) (answer_decided from u c))
          each true = told i.root true ending.Commit
          each false = decided

      by : (b : Bool) → AllSay F (cond b [] (answer_recorded from u c (at_uid u intents)))
      by true = tt
      by false = recorded_so (at_uid u intents)

  pub told_again_so : (telling : List (Uid × Intent)) → AllSay F (tolds_again telling)
  told_again_so [] = tt
  told_again_so (e ∷ es) = let i = e.1 in both F keep (tell_all i.root true ((e.0, ending.Commit) ∷ []) i.nodes) (tolds_again es)
      (tells F keep i.root true ((e.0, ending.Commit) ∷ []) i.nodes) (told_again_so es)

  pub new_so : (node inc : ℕ) (records : List (Uid × Intent)) → CoordIsSo F (record (new_coord node inc) { telling = records })
  new_so node inc records = record { works = λ u d at. nothing (is_own u (let c = new_coord node inc in c.tree)) u.num d at; roots = tt }
    where
      nothing : (b : Bool) (j : ℕ) (d : Doing) → cond b (at_place j []) None ≡ Some d → NowIsSo F d.now
      nothing true zero d is = let no_way : ◌≡◌ {A = Option Doing} None (Some d) = is in cc
      nothing true (suc j) d is = let no_way : ◌≡◌ {A = Option Doing} None (Some d) = is in cc
      nothing false j d is = let no_way : ◌≡◌ {A = Option Doing} None (Some d) = is in cc
