-- Lines of what disks hold are in form: entries that naming has, and states that stores have, are so behind each run.
use Rattle.arj_law_parts.proofs.Words
use Words.{⊤, inl, inr, ◌≡◌, ◌≤◌, ◌==◌, ◌∙◌, ◌&&◌, ℕ, true, not, List, [], ◌∷◌, Option, Some, None, refl, sym, ap, subst}
use Words.{suc, In, arith, nat_tests, is_some, length, nat_le, list_all, AllByRecursion, eqb-true, Body, Header, Line, Node}
use Words.{ObjectLine, ObjectState, Uid, at_place, entry, held_at, object, state_entry, see, world_by, in_find}
use Words.body
use Rattle.arj_base.specs.Uid.{UidFits}
use Rattle.arj_journal.specs.LineForm.{BodyInForm, NodeInForm, ObjectInForm}
use Rattle.arj_journal.specs.ScriptForm.{ObjectLineInForm}
use Rattle.arj_journal.specs.declared.limits.TheConstants.{NODES, STORES}
use Rattle.arj_law_promise.proofs.Terms
use Terms.{Holds, asked_both, keeps_asked}
use Rattle.arj_law_runs.proofs.addresses.Lists.{all_at_uid}
use Rattle.arj_law_runs.proofs.forms.{World.node_form}
use Rattle.arj_law_runs.specs.addresses.Addresses.{AreOf, IsNode, NodeOf, StateOf}
use Rattle.arj_model.specs.Last.{object_line}
use Rattle.arj_promise.specs.Runs.{HeaderFits, IsInForm, Run, journal_by}
use Rattle.arj_text.specs.Fields.{AreBytes, NodesInForm, NumberInForm, is_distinct}
use Rattle.arj_law_cause.proofs.kinds.Held.{IsHeldCopy, IsHeldEntry}
use Rattle.arj_law_cause.proofs.kinds.Shown.{ShowsHeldLine, WasHeld, is_other, runs_show_held}
use Rattle.arj_law_cause.proofs.spelled.Commits.{node_number}
use Rattle.arj_law_cause.proofs.spelled.Messages.{Said, Saves, addressed, good_of, ready_in_form, said_of, saved_keep}
use Rattle.arj_law_cause.proofs.spelled.Names.{Names}
use Rattle.arj_law_cause.proofs.spelled.Onces.{Once, few_once}
use Rattle.arj_law_cause.proofs.spelled.Saving.{IsReady}
use Rattle.arj_law_cause.proofs.waits.lost.Keeping.{DisksFull, disks_keep}
use Rattle.arj_law_cause.proofs.waits.lost.Stored.{IsFull}

-- a list of stores that isn't empty, of nodes that each stand once
module _ (hd : Header) (form : HeaderFits hd) where
  once_distinct : (ns : List ℕ) → Once ns → is_distinct ns ≡ true
  once_distinct [] once = refl
  once_distinct (n ∷ ns) once = λ i. not (once.0 i) && once_distinct ns once.1 i

  are_within : (ns : List ℕ) → AreOf (IsNode hd) ns → list_all (λ m. nat_le 1 m && nat_le m NODES) ns ≡ true
  are_within [] all = refl
  are_within (n ∷ ns) all = λ i. (low 1 n (let b = node_number hd form n all.0 in b.0) i && low n NODES (let b = node_number hd form n all.0 in b.1) i)
      && are_within ns all.1 i
    where
      low : (a b : ℕ) → a ≤ b → nat_le a b ≡ true
      low a b less = grind (arith, nat_tests, less)

  stores_form : (ns : List ℕ) → IsFull ns → Once ns → length ns ≤ 16 → AreOf (IsNode hd) ns → NodesInForm NODES STORES ns
  stores_form [] full once few all = absurd full
  stores_form (n ∷ ns) full once few all = λ i. (some (length ns) i && low (length (n ∷ ns)) few i)
      && (are_within (n ∷ ns) all i && once_distinct (n ∷ ns) once i)
    where
      some : (k : ℕ) → nat_le 1 (suc k) ≡ true
      some k = grind (arith, nat_tests)

      low : (k : ℕ) → k ≤ 16 → nat_le k STORES ≡ true
      low k less = grind (arith, nat_tests, less)

  -- an object of the header is one
  object_form : (x : ℕ) → is_some (object_line hd x) ≡ true → ObjectInForm x
  object_form x is = by (object_line hd x) refl is
    where
      each : (os : List ObjectLine) (o : ObjectLine) → AllByRecursion (ObjectLineInForm hd.nodes) os → In o os → ObjectLineInForm hd.nodes o
      each [] o all i = absurd i
      each (p ∷ ps) o all (inl same) = subst (ObjectLineInForm hd.nodes) same all.0
      each (p ∷ ps) o all (inr i) = each ps o all.1 i

      by : (o : Option ObjectLine) → object_line hd x ≡ o → is_some o ≡ true → ObjectInForm x
      by None found is = absurd (cc is)
      by (Some o) found is =
          let f = in_find (λ (q : ObjectLine). q.x == x) o hd.objects found in
          let l = each hd.objects o (let fs = form.objects in fs.0) f.0 in
          subst ObjectInForm (eqb-true o.x x f.1) l.number

-- ---- what disks hold

-- what a node has on its disk can be shown
record CanShow (hd : Header) (n : Node) : Type 0 where
  number : IsNode hd n.number
  states : (u : Uid) (st : ObjectState) → held_at u (let d = n.disk in d.store) ≡ Some st → AreBytes st.payload × NumberInForm st.version
      × UidFits st.writer
  entries : (u : Uid) (st : ObjectState) → held_at u (let d = n.disk in d.names) ≡ Some st → NumberInForm st.version
      × NodesInForm NODES STORES (let e = state_entry st in e.servers) × NodesInForm NODES STORES (let e = state_entry st in e.stores)

disks_show : (hd : Header) (r : Run hd) → IsInForm hd r → (k : ℕ) (n : Node) → at_place k (let w = world_by hd r in w.nodes) ≡ Some n →
    CanShow hd n
disks_show hd r form k n there = record { number = its.0; states = states; entries = entries }
  where
    h : Holds hd (λ M. (Saves hd form.header M × DisksFull M) × IsReady M) (world_by hd r)
    h = ready_in_form hd (λ M. Saves hd form.header M × DisksFull M) (asked_both hd (Saves hd form.header) DisksFull
        (saved_keep hd form.header) (keeps_asked hd DisksFull (disks_keep hd form.header)))
        (λ M all. good_of hd form.header M (let s = all.0 in s.0)) r form

    said : Said hd form.header (see h.sent (world_by hd r))
    said = said_of hd form.header (see h.sent (world_by hd r)) (let z = h.holds in z.0.0.0)

    its : NodeOf (IsNode hd) n
    its = let a = addressed hd form.header (see h.sent (world_by hd r)) (let s = said in s.0.0) in a.0 k n there

    states : (u : Uid) (st : ObjectState) → held_at u (let d = n.disk in d.store) ≡ Some st → AreBytes st.payload × NumberInForm st.version
        × UidFits st.writer
    states u st is =
        let z = h.holds in
        let saved = z.0.0.1 z.1 in
        let node = saved.0 k n there in
        let f = node.0 in
        let p = f.held u st is in
        let q = p.0 in
        let w = q.0 in (w.1.0, w.1.1, q.1)

    names : Names n.disk
    names = let s = said in s.0.1 k n there

    all_entries : (u : Uid) (st : ObjectState) (P : ObjectState → Type 0) → AllByRecursion (λ (e : Uid × ObjectState). P e.1)
        (let d = n.disk in let p = d.names in p.held) → held_at u (let d = n.disk in d.names) ≡ Some st → P st
    all_entries u st P all is = all_at_uid P u st (let d = n.disk in let p = d.names in p.held) all is

    state_of : (es : List (Uid × ObjectState)) →
        AllByRecursion (λ (e : Uid × ObjectState). (e.0 ≡ entry (let u = e.0 in u.num)) × StateOf (IsNode hd) e.1) es →
        AllByRecursion (λ (e : Uid × ObjectState). StateOf (IsNode hd) e.1) es
    state_of [] all = tt
    state_of (e ∷ es) all = ((all.0).1, state_of es all.1)

    entries : (u : Uid) (st : ObjectState) → held_at u (let d = n.disk in d.names) ≡ Some st → NumberInForm st.version
        × NodesInForm NODES STORES (let e = state_entry st in e.servers) × NodesInForm NODES STORES (let e = state_entry st in e.stores)
    entries u st is =
        let own = names.held u st is in
        let apart = own.0 in
        let numbered = apart.2 in
        let disk = its.1 in
        let known = all_entries u st (StateOf (IsNode hd)) (state_of (let d = n.disk in let p = d.names in p.held) disk.held) is in
        let e = known.1 in
        let z = h.holds in
        let all_full = z.0.1 k n there in
        let full = all_entries u st _ all_full.held is in (
          numbered.version,
          numbered.servers,
          stores_form hd form.header (let f = state_entry st in f.stores) full apart.0
              (few_once 16 (let f = state_entry st in f.stores) apart.0 (numbers (let f = state_entry st in f.stores) e.stores)) e.stores,
        )
      where
        numbers : (ns : List ℕ) → AreOf (IsNode hd) ns → AllByRecursion (λ (m : ℕ). (1 ≤ m) × (m ≤ 16)) ns
        numbers [] all = tt
        numbers (m ∷ ms) all = (node_number hd form.header m all.0, numbers ms all.1)

-- ---- lines

-- a line that shows what is held is in form
abbrev pub ShowInForm : Body → Type 0
ShowInForm (body.Entry x v servers stores) = BodyInForm (body.Entry x v servers stores)
ShowInForm (body.Copy n x v u payload) = BodyInForm (body.Copy n x v u payload)
ShowInForm b = ⊤

held_form : (hd : Header) (b : Body) → WasHeld hd b → ShowInForm b
held_form hd (body.Entry y v servers stores) z =
    let h : IsHeldEntry z.x z.world y v servers stores = z.held in
    let header = (let f = z.form in f.header) in
    let can = disks_show hd z.run z.form h.at h.node (ap (at_place h.at) (sym z.nodes) ∙ h.there) in
    let its = can.entries (entry z.x) h.state h.held in (
      subst ObjectInForm (sym h.shows) (object_form hd header z.x z.there),
      subst NumberInForm (sym h.version) its.0,
      subst (NodesInForm NODES STORES) (sym h.servers_are) its.1,
      subst (NodesInForm NODES STORES) (sym h.stores_are) its.2,
    )
held_form hd (body.Copy n y v u payload) z =
    let h : IsHeldCopy z.x z.world n y v u payload = z.held in
    let header = (let f = z.form in f.header) in
    let can = disks_show hd z.run z.form h.at h.node (ap (at_place h.at) (sym z.nodes) ∙ h.there) in
    let its = can.states (object z.x) h.state h.held in (
      subst NodeInForm (sym h.number) (node_form hd header (let m = h.node in m.number) can.number),
      subst ObjectInForm (sym h.shows) (object_form hd header z.x z.there),
      subst NumberInForm (sym h.version) its.1,
      subst UidFits (sym h.writer) its.2,
      subst AreBytes (sym h.content) its.0,
    )
held_form hd b z = tt

pub runs_show_in_form : (hd : Header) (r : Run hd) → IsInForm hd r → AllByRecursion (λ (line : Line). ShowInForm line.body) (journal_by hd r)
runs_show_in_form hd r form = each (journal_by hd r) (runs_show_held hd r form)
  where
    other : (b : Body) → is_other b ≡ true → ShowInForm b
    other (body.Entry x v servers stores) is = absurd (cc is)
    other (body.Copy n x v u payload) is = absurd (cc is)
    other b is = tt

    one : (b : Body) → ShowsHeldLine hd b → ShowInForm b
    one b (inl is) = other b is
    one b (inr held) = held_form hd b held

    each : (ls : List Line) → AllByRecursion (λ (line : Line). ShowsHeldLine hd line.body) ls →
        AllByRecursion (λ (line : Line). ShowInForm line.body) ls
    each [] all = tt
    each (l ∷ ls) all = (one l.body all.0, each ls all.1)
