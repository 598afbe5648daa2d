-- What holds of each request that was sent, where it follows of what is known as its coordinator has sent it.
use Rattle.arj_law_parts.proofs.Words
use Words.{◌≡◌, ◌≢◌, ◌+◌, ◌++◌, ℕ, List, [], ◌∷◌, Bool, true, false, Option, Some, refl, sym, ◌∙◌, ap, subst, ⊎_elim, length, map, ⊤}
use Words.{Ask, Binding, BoundReply, Head, Header, Kind, Label, Message, ObjectState, asks, again_all, begin_action}
use Words.{heard, Disk, Do, Effect, Say, Send, worked, acked, answer_query, tick_outs, Naming, Handled, Parts, Took, Void, handle, holders}
use Words.{query_about, with_coord, Server, Input, Coord, acts as acts_of, parent_of, parts_in, restart_outs, tolds_again}
use Words.{Post, Seen, is_serial}
use Words.input
use Rattle.arj_law_promise.proofs.Terms
use Terms.{Action, paths_of, IsGoodCoord, IsTree, begun_tree, IsGood, IsGoodOf, IsUp, good_coord, it, KeepsAsked, is_act, In, given, up, Up}
use Terms.{Walks, all_map, AllSo, IsSentBy, SendsSo, so_both, acked_so, acts_so, again_so, heard_so, query_so, tolds_so, walks_both}
use Rattle.arj_law_promise.proofs.waiting
use waiting.AskedEffects.{acked_quiet, heard_quiet, query_quiet}
use waiting.Serving.{AllSend, IsKeptIn, message_served, quiet_so, restart_asks}

-- so it is of each request that was sent
abbrev pub RequestsAre : (Head → Ask → Type 0) → Seen → Type 0
RequestsAre C M = (p : Post) (h : Head) (a : Ask) → In p M.sent → asks p.message ≡ Some (h, a) → C h a

-- what holds at the end of a walk
pub end_of : (R : Seen → Type 0) (e k : ℕ) (v : Parts) (outs : List Effect) (d : Disk) (M : Seen) → Walks R e k outs (Up R k v) d M →
    (c : Disk) × (N : Seen) × R (up k c v N)
end_of R e k v [] d M w = (d, M, w)
end_of R e k v (Do x ∷ es) d M w = end_of R e k v es (worked x d) M w.1
end_of R e k v (Say b ∷ es) d M w = end_of R e k v es d _ w
end_of R e k v (Send to m ∷ es) d M w = end_of R e k v es d _ (w [] refl)

module _ (C : Head → Ask → Type 0) where
  walk : (e k : ℕ) (v : Parts) (outs : List Effect) (d : Disk) (M : Seen) → AllSo v.coord outs →
      ((to : ℕ) (h : Head) (a : Ask) → IsSentBy v.coord to h a → C h a) → RequestsAre C M →
      Walks (RequestsAre C) e k outs (Up (RequestsAre C) k v) d M
  walk e k v [] d M so each all = all
  walk e k v (Do x ∷ es) d M so each all = ((λ how. all), walk e k v es (worked x d) M so.1 each all)
  walk e k v (Say b ∷ es) d M so each all = walk e k v es d _ so.1 each all
  walk e k v (Send to m ∷ es) d M so each all = λ more quiet. walk e k v es d _ so.1 each
      (λ p h a there is. ⊎_elim (λ same. each to h a (so.0 h a (ap (λ (q : Post). asks q.message) same ∙ is))) (λ old. all p h a old is)
      there)

-- ---- what is sent is of what waits

module _ (begun : List Action) (e k : ℕ) (d : Disk) (t : Parts) (M : Seen) (good : IsGoodOf begun (up k d t M)) where
  tree : IsTree (paths_of begun)
  tree = begun_tree begun good.begun

  its : IsGoodCoord begun (paths_of begun) t.coord
  its = good_coord e k d t M (begun, good)

  its_up : IsUp begun M.sent M.labels k d.inc t
  its_up = it e k d t M (begun, good)

  works : length t.coord.doings ≡ length t.coord.tree.branches
  works = let u = its_up in let f = u.faithful in f.works

  pub message_sends : (from : ℕ) (m : Message) (v : Parts) (outs : List Effect) → handle k d t from m ≡ Took v outs → AllSo v.coord outs
  message_sends from m v outs is = so_of outs (subst By is (message_served RB RL from m k d t S N C kept
      (λ a r of. let q = heard from a r d.intents t.coord in (
        tt,
        quiet_so RB RL from m q.part q.outs (heard_quiet begun e k d t M good from a r)
            (heard_so begun (paths_of begun) tree t.coord its its_up.numbered works from a r d.intents),
      ))
      (λ u. let q = acked from u d.intents t.coord in (
        tt,
        quiet_so RB RL from m q.part q.outs (acked_quiet begun e k d t M good from u)
            (acked_so from u d.intents t.coord),
      ))
      (λ u. quiet_so RB RL from m t.coord (answer_query from u d.intents t.coord) (query_quiet begun e k d t M good from u)
      (query_so t.coord from u d.intents t.coord)))).1
    where
      RB : Head → ℕ → Bool → Binding → BoundReply → Type 0
      RB h x include avoid r = ⊤

      RL : Head → ℕ → ObjectState → Type 0
      RL h x st = ⊤

      S : Server → Type 0
      S s = ⊤

      N : Option Naming → Type 0
      N o = ⊤

      C : Coord → Type 0
      C c = ⊤

      kept : IsKeptIn RB RL from m k d t S N C
      kept = record {
        its_server = tt;
        activate = λ h b st asked. tt;
        invoke = λ h x b i ends o asked. tt;
        vote = λ h i ties ends. tt;
        told = λ ends. tt;
        its_naming = tt;
        its_coord = tt;
        bind = λ h x include avoid n asked there. (tt, λ q is. tt);
        note = λ h x b i g n there. tt;
        confirm = λ h grants ex inc n there. tt;
        ended = λ u how n there. tt;
        hello = λ node inc n there. tt;
        load = λ h x st is. tt;
      }

      By : Handled → Type 0
      By (Void es) = ⊤
      By (Took w es) = ((⊤ × ⊤) × ⊤) × AllSend RB RL from m w.coord es

      so_of : (es : List Effect) → AllSend RB RL from m v.coord es → AllSo v.coord es
      so_of [] all = tt
      so_of (Say b ∷ es) all = (tt, so_of es all.1)
      so_of (Do w ∷ es) all = (tt, so_of es all.1)
      so_of (Send to p ∷ es) all = ((all.0).1, so_of es all.1)

  pub act_sends : (i : Input) → is_act i ≡ true → AllSo (acts_of i d.intents t.coord).part (acts_of i d.intents t.coord).outs
  act_sends i is = acts_so begun (paths_of begun) tree t.coord its its_up.numbered works i d.intents other
    where
      other : (l : Label) (how : Kind) (parent : Option Label) → i ≢ input.Begin l how parent
      other l how parent same = let no_way : false ≡ true = sym (ap is_act same) ∙ is in cc no_way

  pub tick_sends : AllSo (again_all t.coord.doings t.coord).part (tick_outs (record { number = k; disk = d; live = Some t }) t)
  tick_sends =
      let r = again_all t.coord.doings t.coord in
      let tolds = tolds_again t.coord.telling in
      so_both r.part (r.outs ++ tolds) (map query_about (holders d t))
      (so_both r.part r.outs tolds (again_so begun (paths_of begun) tree t.coord its its_up.numbered works)
      (tolds_so r.part t.coord.telling))
      (all_map (SendsSo r.part) query_about (holders d t) (λ w h a is. absurd (cc is)))

-- ---- in every run

-- Beside what is kept by every handler it is kept of each request that was sent, where it follows of that as the request is sent.
pub posts_keep : (hd : Header) (R : Seen → Type 0) → KeepsAsked hd R → ((M : Seen) → R M → IsGood M) → (C : Head → Ask → Type 0) →
    ((k : ℕ) (c : Disk) (v : Parts) (N : Seen) → R (up k c v N) → (to : ℕ) (h : Head) (a : Ask) → IsSentBy v.coord to h a → C h a) →
    KeepsAsked hd (λ M. R M × RequestsAre C M)
posts_keep hd R keeps good C so = record {
  quiet = λ e bs M quiet g. (keeps.quiet e bs M quiet g.0, g.1);
  stop = λ e k d live M g. (keeps.stop e k d live M g.0, g.1);
  message = λ e k d t v from m outs M g there meant is. let b = good (up k d t M) g.0 in
      beside e k outs v d M (message_sends b.0 e k d t M b.1 from m v outs is) (keeps.message e k d t v from m outs M g.0 there meant is)
      g.1;
  act = λ e k d t i M is asks free g. let did = acts_of i d.intents t.coord in let b = good (up k d t M) g.0 in
      beside e k did.outs (with_coord t did.part) d M (act_sends b.0 e k d t M b.1 i is) (keeps.act e k d t i M is asks free g.0) g.1;
  begin = λ e k d t l how parent M new may free g. let did = begin_action l how parent (parent_of parent t.coord) t.coord in
      beside e k did.outs (with_coord t did.part) d (given l (record { node = k; serial = is_serial how }) M) (tt, tt)
      (keeps.begin e k d t l how parent M new may free g.0) g.1;
  tick = λ e k d t M g. let b = good (up k d t M) g.0 in beside e k (tick_outs (record { number = k; disk = d; live = Some t }) t)
      (with_coord t (again_all t.coord.doings t.coord).part) d M (tick_sends b.0 e k d t M b.1) (keeps.tick e k d t M g.0) g.1;
  restart = λ e k d M g. beside e k (restart_outs hd k (d.inc + 1) d) (parts_in k (d.inc + 1) d) d M (restart_asks hd k (d.inc + 1) d)
      (keeps.restart e k d M g.0) g.1;
  first = λ st formed. (keeps.first st formed, λ p h a there. absurd there);
}
  where
    beside : (e k : ℕ) (outs : List Effect) (v : Parts) (d : Disk) (M : Seen) → AllSo v.coord outs → Walks R e k outs (Up R k v) d M →
        RequestsAre C M → Walks (λ N. R N × RequestsAre C N) e k outs (Up (λ N. R N × RequestsAre C N) k v) d M
    beside e k outs v d M sends walked all = let z = end_of R e k v outs d M walked in
        walks_both R (RequestsAre C) e k outs (Up R k v) (Up (RequestsAre C) k v) d M walked
        (walk C e k v outs d M sends (λ to h a by. so k z.0 v z.1 z.2 to h a by) all)
