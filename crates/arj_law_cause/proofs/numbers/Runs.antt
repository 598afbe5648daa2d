-- In every run bindings and incarnations fit 32 bits wherever they are, while those of nodes' disks do and naming has made few bindings.
use Rattle.arj_law_parts.proofs.Words
use Words.{⊤, ◌≡◌, ◌≤◌, ◌<◌, ◌+◌, ◌++◌, ℕ, Bool, true, false, if◌then◌else◌, List, [], ◌∷◌, Option, Some, None, refl, subst, arith}
use Words.{⊎_elim, inr, IfSome, most_events, AllByRecursion, and_parts, list_all, map, Ask, Asked, Body, Head, Header, Line, asks, Reply, answers}
use Words.{again_all, begin_action, is_serial, Disk, Do, Effect, Look, PutInc, Say, Send}
use Words.{stopped, worked, tick_outs, Naming, Parts, holders, query_about, tolds_again, with_coord, Node}
use Words.{acts as does, node_by, parent_of, parts_in, restart_outs, numbered, Post, Seen, Start}
use Words.body
use Rattle.std.specs.Prelude.{drop}
use Rattle.arj_law_parts.proofs.coordinator.Walks.{acts_trace, again_trace}
use Rattle.arj_law_parts.proofs.moves.EachNode as at_each
use Rattle.arj_law_parts.specs.moves.Seen.{AreQuiet, is_quiet_line}
use Rattle.arj_law_promise.proofs.Terms
use Terms.{In, KeepsAsked, Up, Walks, all_append, at, disk_by, first_at, given, halted, node_here, posted, said, up, walks_both}
use Rattle.arj_law_runs.proofs.calls.MadeLines.{fewer}
use Rattle.arj_law_runs.specs.calls.Bindings.{AreSaid, bindings_made, most_bindings}
use Rattle.arj_msg.specs.InForm.{IsShort}
use Rattle.arj_promise.specs.Starts.{IsFormed}
use Rattle.arj_start.specs.Limits.{last_inc}
use Rattle.arj_law_cause.proofs.numbers.Coords.{begins_nums, coord_nums}
use Rattle.arj_law_cause.proofs.numbers.Fits.{AllNums, BodyNums, MessageNums, VersionFits, both_nums}
use Rattle.arj_law_cause.proofs.numbers.Nodes.{By, HasNext, IsOfObject, PartsNums, message_nums, new_parts, queries_nums, restart_nums, tolds_nums}
use Rattle.arj_law_cause.proofs.spelled.Askers.{fewer_uids}
use Rattle.arj_law_cause.proofs.spelled.Saving.{IsReady}

-- ---- what bounds them

-- an incarnation in which a node comes up fits
abbrev pub UpFits : Body → Type 0
UpFits (body.Up n i) = IsShort i
UpFits b = ⊤

abbrev UpsFit : List Line → Type 0
UpsFit ls = AllByRecursion (λ (l : Line). UpFits l.body) ls

-- incarnations in which nodes came up fit, and naming made few bindings; operations and Uids are in form
pub record IsBounded (M : Seen) : Type 0 where
  pub ups : UpsFit M.lines
  pub few : bindings_made M.lines < most_bindings
  pub ready : IsReady M

less : (a b c : ℕ) → a ≤ b → b < c → a < c
less a b c x y = omega (arith, x, y)

front : (P : Line → Type 0) (xs ys : List Line) → AllByRecursion P (xs ++ ys) → AllByRecursion P xs × AllByRecursion P ys
front P [] ys all = (tt, all)
front P (x ∷ xs) ys all = let r = front P xs ys all.1 in ((all.0, r.0), r.1)

-- before more lines were said
fewer_lines : (e : ℕ) (bs : List Body) (M : Seen) → IsBounded (said e bs M) → IsBounded M
fewer_lines e bs M b = let r = b.ready in record {
  ups = (front (λ (l : Line). UpFits l.body) M.lines (numbered e bs) b.ups).0;
  few = less (bindings_made M.lines) (bindings_made (M.lines ++ numbered e bs)) most_bindings (fewer M.lines (numbered e bs)) b.few;
  ready = (r.0, fewer_uids M.lines (numbered e bs) r.1);
}

-- and before a message was sent
fewer_posts : (p : Post) (M : Seen) → IsBounded (posted p M) → IsBounded M
fewer_posts p M b = let r = b.ready in record {
  ups = b.ups;
  few = b.few;
  ready = ((λ q h x c j ends o there is. r.0 q h x c j ends o (inr there) is), r.1);
}

-- whatever a node is
any_node : (k : ℕ) (d : Disk) (live : Option Parts) (M : Seen) → IsBounded (at k d live M) → IsBounded M
any_node k d live M b = record { ups = b.ups; few = b.few; ready = b.ready }

its_node : (k : ℕ) (d : Disk) (live : Option Parts) (M : Seen) → IsBounded M → IsBounded (at k d live M)
its_node k d live M b = record { ups = b.ups; few = b.few; ready = b.ready }

-- ---- where they fit

abbrev NodeNums : Node → Type 0
NodeNums n = IfSome n.live PartsNums

abbrev LinesNums : Seen → Type 0
LinesNums M = AllByRecursion (λ (l : Line). BodyNums l.body) M.lines

-- at each node, in each message and in each line
abbrev pub AreNums : Seen → Type 0
AreNums M = at_each.Each NodeNums M × ((p : Post) → In p M.sent → MessageNums p.message) × LinesNums M

abbrev pub NumsWhere : Seen → Type 0
NumsWhere M = IsBounded M → AreNums M

-- all but one node
record Rest (k : ℕ) (M : Seen) : Type 0 where
  others : at_each.EachBut NodeNums k M
  posts : (p : Post) → In p M.sent → MessageNums p.message
  lines : LinesNums M

rest_of : (k : ℕ) (d : Disk) (live : Option Parts) (M : Seen) → AreNums (at k d live M) → Rest k M
rest_of k d live M all = record { others = at_each.others NodeNums k d live M all.0; posts = all.1; lines = all.2 }

whole : (k : ℕ) (d : Disk) (live : Option Parts) (M : Seen) → IfSome live PartsNums → Rest k M → AreNums (at k d live M)
whole k d live M its r = (at_each.back NodeNums k d live M its r.others, r.posts, r.lines)

numbered_nums : (e : ℕ) (bs : List Body) → AllByRecursion (BodyNums) bs →
    AllByRecursion (λ (l : Line). BodyNums l.body) (numbered e bs)
numbered_nums e [] all = tt
numbered_nums e (b ∷ bs) all = (all.0, numbered_nums e bs all.1)

said_rest : (k e : ℕ) (bs : List Body) (M : Seen) → AllByRecursion (BodyNums) bs → Rest k M → Rest k (said e bs M)
said_rest k e bs M all r = record {
  others = r.others;
  posts = r.posts;
  lines = all_append (λ (l : Line). BodyNums l.body) M.lines (numbered e bs) r.lines
      (numbered_nums e bs all);
}

quiet_nums : (bs : List Body) → AreQuiet bs → AllByRecursion (BodyNums) bs
quiet_nums [] are = tt
quiet_nums (b ∷ bs) are = let p = and_parts (is_quiet_line b) (list_all is_quiet_line bs) are in (one b p.0, quiet_nums bs p.1)
  where
    one : (c : Body) → is_quiet_line c ≡ true → BodyNums c
    one (body.Changed l n d) is = absurd (cc is)
    one (body.Aborted l c) is = absurd (cc is)
    one (body.Bound x b n) is = absurd (cc is)
    one (body.Active n x b) is = absurd (cc is)
    one c is = tt

halted_nums : (e k : ℕ) (d : Disk) (M : Seen) → Rest k M → AreNums (halted e k d M)
halted_nums e k d M r = whole k d None (said e (body.Halted k ∷ []) M) tt (said_rest k e (body.Halted k ∷ []) M (tt, tt) r)

-- before a node halted
halted_bounds : (e k : ℕ) (d : Disk) (M : Seen) → IsBounded (halted e k d M) → IsBounded M
halted_bounds e k d M b = fewer_lines e (body.Halted k ∷ []) M (record { ups = b.ups; few = b.few; ready = b.ready })

-- what a node has and does
record Good (k : ℕ) (v : Parts) (outs : List Effect) (M : Seen) : Type 0 where
  parts : PartsNums v
  effects : AllNums outs
  rest : Rest k M

walk : (B : Type 0) (e k : ℕ) (outs : List Effect) (v : Parts) (d : Disk) (M : Seen) → (IsBounded M → B) → (B → Good k v outs M) →
    Walks NumsWhere e k outs (Up NumsWhere k v) d M
walk B e k [] v d M ready good = λ b. let g = good (ready (any_node k d (Some v) M b)) in whole k d (Some v) M g.parts g.rest
walk B e k (Do w ∷ es) v d M ready good = (
  λ how b. let z = stopped how w d in let g = good (ready (halted_bounds e k z M b)) in halted_nums e k z M g.rest,
  walk B e k es v (worked w d) M ready (λ a. let g = good a in record { parts = g.parts; effects = (let f = g.effects in f.1); rest = g.rest }),
)
walk B e k (Say b ∷ es) v d M ready good = walk B e k es v d (said e (b ∷ []) M) (λ x. ready (fewer_lines e (b ∷ []) M x))
    (λ a. let g = good a in let f = g.effects in record { parts = g.parts; effects = f.1; rest = said_rest k e (b ∷ []) M (f.0, tt) g.rest })
walk B e k (Send to m ∷ es) v d M ready good = λ more quiet.
    let p : Post = record { from = k; to = to; message = m } in
    walk B e k es v d (said e more (posted p M)) (λ x. ready (fewer_posts p M (fewer_lines e more (posted p M) x)))
    (λ a. let g = good a in let f = g.effects in let r = g.rest in record {
      parts = g.parts;
      effects = f.1;
      rest = said_rest k e more (posted p M) (quiet_nums more quiet) (record {
        others = r.others;
        posts = λ q. ⊎_elim (λ same. subst (λ (z : Post). MessageNums z.message) same f.0) (λ old. r.posts q old);
        lines = r.lines;
      });
    })

-- ---- every handler

-- naming's next binding fits, where it made few
has_next : (ls : List Line) (t : Parts) → ((o : Naming) → t.naming ≡ Some o → o.count ≤ bindings_made ls) → bindings_made ls < most_bindings →
    HasNext t
has_next ls t said few o is = next o.count (bindings_made ls) (said o is) few
  where
    next : (a b : ℕ) → a ≤ b → b < 4294967295 → IsShort (a + 1)
    next a b x y = omega (arith, x, y)

-- beside what is kept by every handler, where that says of requests that they are of objects, of answers what they say, and of bindings how
-- many naming made
pub numbers_keep : (hd : Header) (R : Seen → Type 0) → KeepsAsked hd R →
    ((M : Seen) → R M → (p : Post) (h : Head) (a : Ask) → In p M.sent → asks p.message ≡ Some (h, a) → IsOfObject a) →
    ((M : Seen) → R M → IsReady M → (p : Post) (a : Asked) (r : Reply) → In p M.sent → answers p.message ≡ Some (a, r) →
    VersionFits r) → ((M : Seen) → R M → AreSaid M) → KeepsAsked hd (λ M. R M × NumsWhere M)
numbers_keep hd R keeps objects says made = record {
  quiet = λ e bs M quiet g. (
    keeps.quiet e bs M quiet g.0,
    λ b.
        let all = g.1 (fewer_lines e bs M b) in (
          all.0,
          all.1,
          all_append (λ (l : Line). BodyNums l.body) M.lines (numbered e bs) all.2
              (numbered_nums e bs (quiet_nums bs quiet)),
        ),
  );
  stop = λ e k d live M g. (
    keeps.stop e k d live M g.0,
    λ b. halted_nums e k d M (rest_of k d live M (g.1 (its_node k d live M (halted_bounds e k d M b)))),
  );
  message = λ e k d t v from m outs M g there meant is.
      beside e k outs v d M (keeps.message e k d t v from m outs M g.0 there meant is)
      (walk (IsBounded M) e k outs v d M (λ b. b) (λ b.
      let all = g.1 (its_node k d (Some t) M b) in
      let p : Post = record { from = from; to = k; message = m } in
      let its = at_each.own NodeNums k d (Some t) M all.0 in
      let next = has_next M.lines t (λ o at_it. made (up k d t M) g.0 k (record { number = k; disk = d; live = Some t })
      (node_here M k (record { number = k; disk = d; live = Some t })) t o refl at_it) b.few in
      let r = subst (By k d t from its next) is (message_nums k d t from its next m (all.1 p there)
      (λ h a same. objects (up k d t M) g.0 p h a there same) (λ a q same. says (up k d t M) g.0 b.ready p a q there same)) in
      record { parts = r.0; effects = r.1; rest = rest_of k d (Some t) M all }));
  act = λ e k d t i M is asks_node free g. let did = does i d.intents t.coord in
      beside e k did.outs (with_coord t did.part) d M (keeps.act e k d t i M is asks_node free g.0)
      (walk (IsBounded M) e k did.outs (with_coord t did.part) d M (λ b. b) (λ b.
      let all = g.1 (its_node k d (Some t) M b) in
      let its = at_each.own NodeNums k d (Some t) M all.0 in
      let r = coord_nums its.coord tt (acts_trace t.coord i d.intents) in
      record {
        parts = record { server = its.server; naming = its.naming; coord = r.0 };
        effects = r.1;
        rest = rest_of k d (Some t) M all;
      }));
  begin = λ e k d t l how parent M new may free g.
      let did = begin_action l how parent (parent_of parent t.coord) t.coord in
      let N = given l (record { node = k; serial = is_serial how }) M in
      beside e k did.outs (with_coord t did.part) d N (keeps.begin e k d t l how parent M new may free g.0)
      (walk (IsBounded M) e k did.outs (with_coord t did.part) d N (λ b. record { ups = b.ups; few = b.few; ready = b.ready }) (λ b.
      let all = g.1 (its_node k d (Some t) M b) in
      let its = at_each.own NodeNums k d (Some t) M all.0 in
      let r = rest_of k d (Some t) M all in
      record {
        parts = record { server = its.server; naming = its.naming; coord = begins_nums l how parent (parent_of parent t.coord) t.coord its.coord };
        effects = (tt, tt);
        rest = record { others = r.others; posts = r.posts; lines = r.lines };
      }));
  tick = λ e k d t M g.
      let y : Node = record { number = k; disk = d; live = Some t } in
      let q = again_all t.coord.doings t.coord in
      beside e k (tick_outs y t) (with_coord t q.part) d M (keeps.tick e k d t M g.0)
      (walk (IsBounded M) e k (tick_outs y t) (with_coord t q.part) d M (λ b. b) (λ b.
      let all = g.1 (its_node k d (Some t) M b) in
      let its = at_each.own NodeNums k d (Some t) M all.0 in
      let r = coord_nums its.coord tt (again_trace t.coord) in
      record {
        parts = record { server = its.server; naming = its.naming; coord = r.0 };
        effects = both_nums (q.outs ++ tolds_again t.coord.telling) (map query_about (holders d t))
            (both_nums q.outs (tolds_again t.coord.telling) r.1 (tolds_nums t.coord.telling))
            (queries_nums (holders d t));
        rest = rest_of k d (Some t) M all;
      }));
  restart = λ e k d M g. let inc = d.inc + 1 in let outs = restart_outs hd k (d.inc + 1) d in
      beside e k outs (parts_in k inc d) d M (keeps.restart e k d M g.0) (restarted e k d M g.1);
  first = λ st formed. (
    keeps.first st formed,
    λ b. ((λ j n is. subst NodeNums (first_at hd st j n is) (first_nums st formed j)), (λ p no_way. absurd no_way), tt),
  );
}
  where
    beside : (e k : ℕ) (outs : List Effect) (v : Parts) (d : Disk) (M : Seen) → Walks R e k outs (Up R k v) d M →
        Walks NumsWhere e k outs (Up NumsWhere k v) d M → Walks (λ N. R N × NumsWhere N) e k outs (Up (λ N. R N × NumsWhere N) k v) d M
    beside e k outs v d M a b = walks_both R NumsWhere e k outs (Up R k v) (Up NumsWhere k v) d M a b

    -- a node that comes up says first in which incarnation
    restarted : (e k : ℕ) (d : Disk) (M : Seen) → NumsWhere (at k d None M) →
        Walks NumsWhere e k (restart_outs hd k (d.inc + 1) d) (Up NumsWhere k (parts_in k (d.inc + 1) d)) d M
    restarted e k d M g =
        let inc = d.inc + 1 in
        let z = worked (PutInc (d.inc + 1)) d in
        let ups : List Body = body.Up k (d.inc + 1) ∷ [] in
        let old = λ (b : IsBounded M). rest_of k d None M (g (its_node k d None M b)) in (
          (λ how b. halted_nums e k (stopped how Look d) M (old (halted_bounds e k (stopped how Look d) M b))),
          (
            (λ how b. let y = stopped how (PutInc (d.inc + 1)) d in halted_nums e k y M (old (halted_bounds e k y M b))),
            walk (IsBounded M × IsShort (d.inc + 1)) e k (drop 3 (restart_outs hd k (d.inc + 1) d)) (parts_in k (d.inc + 1) d) z
                (said e (body.Up k (d.inc + 1) ∷ []) M)
                (λ b. (
                  fewer_lines e (body.Up k (d.inc + 1) ∷ []) M b,
                  (let r = front (λ (l : Line). UpFits l.body) M.lines (numbered e (body.Up k (d.inc + 1) ∷ [])) b.ups in r.1.0),
                )) (λ a. record {
                  parts = new_parts k (d.inc + 1) d a.1;
                  effects = (restart_nums hd k d).1;
                  rest = said_rest k e (body.Up k (d.inc + 1) ∷ []) M (tt, tt) (old a.0);
                }),
          ),
        )

    first_nums : (st : Start) → IsFormed hd st → (n : ℕ) → NodeNums (node_by hd st n)
    first_nums st formed n = by (st.up n)
      where
        room : (i : ℕ) → i + 1 + most_events < last_inc → IsShort (i + 1)
        room i low = omega (arith, low)

        by : (b : Bool) → IfSome (if b then Some (parts_in n (st.incs n + 1) (disk_by hd st n)) else None) PartsNums
        by true = new_parts n (st.incs n + 1) (disk_by hd st n) (room (st.incs n) (formed.incs n))
        by false = tt
