-- Each handler keeps that nodes have their numbers, and that labels are of nodes that are there.
use Rattle.arj_law_parts.proofs.Words
use Words.{◌≡◌, ◌⊎◌, ◌==◌, ℕ, ◌+◌, Bool, true, false, cond, List, [], ◌∷◌, Option, Some, None, refl, sym, ◌∙◌, ap, inl, inr, ⊎_elim}
use Words.{eqb-true, is_eq, Header, Label, label_cmp, again_all, begin_action, Disk, Do, Effect, Say, Send, stopped, worked, tick_outs}
use Words.{Parts, with_coord, Node, acts, parent_of, parts_in, restart_outs, Labelled, Seen, is_serial}
use Rattle.arj_law_serial.proofs.Terms.{Keeps, label_at, at, given, posted, said, Up, Walks, first_at, node_cases, node_here, NodesAreThere}
use Rattle.arj_law_disk_view.proofs.view.Frames.{node_other}
use Rattle.arj_law_runs.proofs.kept.Labels.{put_label}

-- so it is where this node may be in any state
record AreOthersThere (k : ℕ) (M : Seen) : Type 0 where
  numbers : (j : ℕ) (n : Node) → (j == k) ≡ false → M.nodes j ≡ Some n → n.number ≡ j
  labels : (l : Label) (g : Labelled) → label_at l M.labels ≡ Some g →
      (g.node ≡ k) ⊎ (((g.node == k) ≡ false) × ((n : Node) × (M.nodes g.node ≡ Some n)))

bool_cases : (b : Bool) → (b ≡ true) ⊎ (b ≡ false)
bool_cases true = inl refl
bool_cases false = inr refl

others_there : (k : ℕ) (d : Disk) (live : Option Parts) (M : Seen) → NodesAreThere (at k d live M) → AreOthersThere k M
others_there k d live M p = record {
  numbers = λ j n off is. p.numbers j n (node_other M k (record { number = k; disk = d; live = live }) j off ∙ is);
  labels = λ l g is. let r = p.labels l g is in ⊎_elim
      (λ (on : (g.node == k) ≡ true). inl (eqb-true g.node k on))
      (λ (off : (g.node == k) ≡ false).
      inr (off, (r.0, sym (node_other M k (record { number = k; disk = d; live = live }) g.node off) ∙ r.1)))
      (bool_cases (g.node == k));
}

all_there : (k : ℕ) (d : Disk) (live : Option Parts) (M : Seen) → AreOthersThere k M → NodesAreThere (at k d live M)
all_there k d live M p = record {
  numbers = λ j n is. ⊎_elim
      (λ (same : (j ≡ k) × (record { number = k; disk = d; live = live } ≡ n)). ap (λ (m : Node). m.number) (sym same.1) ∙ sym same.0)
      (λ (other : ((j == k) ≡ false) × (M.nodes j ≡ Some n)). p.numbers j n other.0 other.1)
      (node_cases M k (record { number = k; disk = d; live = live }) j n is);
  labels = λ l g is. ⊎_elim
      (λ (same : g.node ≡ k). (
        record { number = k; disk = d; live = live },
        ap (at k d live M).nodes same ∙ node_here M k (record { number = k; disk = d; live = live }),
      ))
      (λ (other : ((g.node == k) ≡ false) × ((n : Node) × (M.nodes g.node ≡ Some n))). (let r = other.1 in
      (r.0, node_other M k (record { number = k; disk = d; live = live }) g.node other.0 ∙ r.1)))
      (p.labels l g is);
}

-- lines and messages change nothing of it
same_there : (k : ℕ) (M N : Seen) → N.nodes ≡ M.nodes → N.labels ≡ M.labels → AreOthersThere k M → AreOthersThere k N
same_there k M N nodes labels p = record {
  numbers = λ j n off is. p.numbers j n off (sym (ap (λ f. f j) nodes) ∙ is);
  labels = λ l g is. ⊎_elim (λ same. inl same) (λ other. inr (other.0, (let r = other.1 in (r.0, ap (λ f. f g.node) nodes ∙ r.1))))
      (p.labels l g (ap (label_at l) (sym labels) ∙ is));
}

there_walk : (e k : ℕ) (outs : List Effect) (v : Parts) (d : Disk) (M : Seen) → AreOthersThere k M →
    Walks NodesAreThere e k outs (Up NodesAreThere k v) d M
there_walk e k [] v d M p = all_there k d (Some v) M p
there_walk e k (Do w ∷ es) v d M p = (
  (λ how. let q = all_there k (stopped how w d) None M p in record { numbers = q.numbers; labels = q.labels }),
  there_walk e k es v (worked w d) M p,
)
there_walk e k (Say b ∷ es) v d M p = there_walk e k es v d (said e (b ∷ []) M) (same_there k M (said e (b ∷ []) M) refl refl p)
there_walk e k (Send to m ∷ es) v d M p = λ bs quiet. let N = said e bs (posted (record { from = k; to = to; message = m }) M) in
    there_walk e k es v d N (same_there k M N refl refl p)

-- with a label that is given at this node
given_there : (k : ℕ) (l : Label) (serial : Bool) (M : Seen) → AreOthersThere k M →
    AreOthersThere k (given l (record { node = k; serial = serial }) M)
given_there k l serial M p = record {
  numbers = p.numbers;
  labels = λ q g is. by q g (is_eq (label_cmp q l)) (sym (put_label q l (record { node = k; serial = serial }) M.labels) ∙ is);
}
  where
    by : (q : Label) (g : Labelled) (b : Bool) → cond b (Some (record { node = k; serial = serial })) (label_at q M.labels) ≡ Some g →
        (g.node ≡ k) ⊎ (((g.node == k) ≡ false) × ((n : Node) × (M.nodes g.node ≡ Some n)))
    by q g true is = inl (let same : record { node = k; serial = serial } ≡ g = cc is in ap (λ (h : Labelled). h.node) (sym same))
    by q g false is = p.labels q g is

pub nodes_keep : (hd : Header) → Keeps hd NodesAreThere
nodes_keep hd = record {
  quiet = λ e bs M quiet p. record { numbers = p.numbers; labels = p.labels };
  stop = λ e k d live M p. let q = all_there k d None M (others_there k d live M p) in record { numbers = q.numbers; labels = q.labels };
  message = λ e k d t v from m outs M p there meant is. there_walk e k outs v d M (others_there k d (Some t) M p);
  act = λ e k d t i M is none p. let did = acts i d.intents t.coord in
      there_walk e k did.outs (with_coord t did.part) d M (others_there k d (Some t) M p);
  begin = λ e k d t l how parent M new may none p.
      let did = begin_action l how parent (parent_of parent t.coord) t.coord in
      there_walk e k did.outs (with_coord t did.part) d (given l (record { node = k; serial = is_serial how }) M)
      (given_there k l (is_serial how) M (others_there k d (Some t) M p));
  tick = λ e k d t M p. there_walk e k (tick_outs (record { number = k; disk = d; live = Some t }) t)
      (with_coord t (again_all t.coord.doings t.coord).part) d M (others_there k d (Some t) M p);
  restart = λ e k d M p. there_walk e k (restart_outs hd k (d.inc + 1) d) (parts_in k (d.inc + 1) d) d M (others_there k d None M p);
  first = λ st formed.
      record { numbers = λ k n is. ap (λ (m : Node). m.number) (sym (first_at hd st k n is)); labels = λ l g is. absurd (cc is) };
}
