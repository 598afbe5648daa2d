-- Whose entry is prepared beside a top of its root that is new in the last event, is committed by the journal.
use Rattle.arj_law_parts.proofs.Words
use Words.{◌≡◌, ◌==◌, ℕ, true, List, [], ◌∷◌, Some, Contains, refl, sym, ◌∙◌, ap, subst, inl, inr, ⊎_elim, first_uid, is_on, In, in_from}
use Words.{in_to, uid_number, Header, Line, World, number_tells, IsNew, uid_of}
use Rattle.arj_law_serial.proofs.Terms
use Terms.{Done, Hold, decided_in, or_cases, test_is, book, is_top, new_book, AreDistinct, IsCommittedIn, IsDone, AreRight, IsOfNode}
use Terms.{Stands, one_act, stands_lines, stands_new, its_acts, its_sound, on_path, kept_nodes, kept_right, Act, acts, root_in, uids, Top}
use Terms.{root_or, tops, path_of, Keeping, IsOrderedSo}
use Terms.disk
use Terms.words
use Rattle.arj_law_disk.specs.machine.State.{State}
use Rattle.arj_law_parts.specs.moves.Keeps.{Holds}
use Rattle.arj_law_serial.proofs.{joint.NamedTops.disk_of, joint.NewWriters.its_uid, order.Paths.own_there}
use Rattle.arj_law_serial.proofs.order.Order.{IsTopOf, same_number, top_for, top_item}
use Rattle.arj_law_serial.specs.joint.Excluded.{TakersAreCommitted}

-- ---- lists

-- a decided top has its decision
decision_of : (ds : List Done) (t : ℕ) → decided_in ds t ≡ true → (d : Done) × words.In d ds × (d.top ≡ t)
decision_of [] t is = absurd (cc is)
decision_of (d ∷ ds) t is = ⊎_elim (λ (here : (d.top == t) ≡ true). (d, inl refl, test_is d.top t here))
    (λ there. let r = decision_of ds t there in (r.0, inr r.1, r.2)) (or_cases (d.top == t) (decided_in ds t) is)

-- two paths of a journal that begin with one Uid have one root
one_root : (lines : List Line) → AreRight new_book lines → (p q : List Act) → ((z : Act) → In z p → In z (acts lines)) → ((z : Act) →
    In z q → In z (acts lines)) → (a b : Act) → In a p → In b q → first_uid (uids p) ≡ first_uid (uids q) → root_in p ≡ root_in q
one_root lines right [] q f g a b i j first = absurd i
one_root lines right (x ∷ p) [] f g a b i j first = absurd j
one_root lines right (x ∷ p) (y ∷ q) f g a b i j first = ap (λ (z : Act). Some z.id)
    (one_act (acts lines) (let s = its_sound lines right in s.distinct) x y (f x (inl refl)) (g y (inl refl)) first)

-- ---- in a world that is reached

module _ (hd : Header) (w : World) (keeping : Keeping hd w) (x : ℕ) (h : Holds hd (IsOrderedSo hd x) w) where
  abbrev lines : List Line
  lines = w.lines

  abbrev S : State
  S = disk_of h.holds

  right : AreRight new_book lines
  right = kept_right hd w keeping

  stands : Stands (book lines)
  stands = stands_lines new_book lines right stands_new

  distinct : AreDistinct (acts lines)
  distinct = let s = its_sound lines right in s.distinct

  -- a decided top's action
  module _ (n : ℕ) (d : disk.decided S n ≡ true) (a : Act) (there : In a (acts lines)) (number : uid_number a.uid ≡ n) where
    it : (e : Done) × words.In e S.tops × (e.top ≡ n)
    it = decision_of S.tops n d

    called : is_on (let B = book lines in B.called) a.uid ≡ true
    called = let o = h.holds in o.called it.0 it.1 a.uid (number ∙ sym it.2)

    kind : is_top a.kind ≡ true
    kind = let c = stands.closes in c.calls a (subst (In a) (sym (its_acts lines right)) there) called

    root_is : S.root n ≡ uid_number (first_uid (uids (path_of lines a)))
    root_is = ap S.root (sym it.2) ∙ (let o = h.holds in o.roots it.0 a it.1 (in_to a (acts lines) there) (number ∙ sym it.2))

  module _ (t : Top) (hold : Hold) (new : IsNew w.event lines t) (decided_t : disk.decided S (uid_number (uid_of lines t)) ≡ true)
      (decided_h : disk.decided S hold.top ≡ true) (same_root : S.root hold.top ≡ S.root (uid_number (uid_of lines t))) where
    ti : IsTopOf lines t
    ti = top_item lines right t (in_from t (tops lines) new.0)

    whose : (a : Act) × Contains (acts lines) a × (uid_number a.uid ≡ hold.top)
    whose = let o = h.holds in let b = o.begun in let j = b.journalled in j.whose hold.top decided_h

    abbrev a : Act
    a = whose.0

    a_there : In a (acts lines)
    a_there = in_from a (acts lines) whose.1

    own : uid_of lines t ≡ (let z = ti.act in z.uid)
    own = its_uid lines right t ti

    heads : first_uid (uids (path_of lines a)) ≡ first_uid (uids (path_of lines ti.act))
    heads = number_tells (first_uid (uids (path_of lines a))) (first_uid (uids (path_of lines ti.act))) (sym (root_is hold.top decided_h a
        a_there whose.2) ∙ same_root ∙ root_is (uid_number (uid_of lines t)) decided_t ti.act ti.there (ap uid_number (sym own)))

    -- it is a committed top, of the same root
    found : IsDone lines a → (b : Top) × Contains (tops lines) b × (uid_number (uid_of lines b) ≡ hold.top) × (b.root ≡ t.root)
    found done =
        let b = top_for lines right a a_there (kind hold.top decided_h a a_there whose.2) done in
        let bi = top_item lines right b.0 b.1 in
        let same : bi.act ≡ a = same_number lines right bi.act a bi.there a_there (bi.number ∙ b.2) in
        let member : (c : Act) (z : Act) → In z (path_of lines c) → In z (acts lines) = λ c z j. on_path (acts lines) c.label z j in
        let formed = (let s = its_sound lines right in s.formed) in
        let roots = one_root lines right (path_of lines bi.act) (path_of lines ti.act) (member bi.act) (member ti.act) bi.act ti.act
        (own_there (acts lines) distinct formed bi.act bi.there) (own_there (acts lines) distinct formed ti.act ti.there)
        (ap (λ (z : Act). first_uid (uids (path_of lines z))) same ∙ heads) in (
          b.0,
          in_to b.0 (tops lines) b.1,
          ap uid_number (its_uid lines right b.0 bi ∙ ap (λ (z : Act). z.uid) same) ∙ whose.2,
          bi.root_is ∙ either (let c = bi.act in c.id) (let c = ti.act in c.id) ti.act (path_of lines bi.act) (path_of lines ti.act) roots
              (own_there (acts lines) distinct formed ti.act ti.there) ∙ sym ti.root_is,
        )
      where
        either : (k m : ℕ) (z : Act) (p q : List Act) → root_in p ≡ root_in q → In z q → root_or k (root_in p) ≡ root_or m (root_in q)
        either k m z p [] same i = absurd i
        either k m z p (y ∷ q) same i = ap (root_or k) same

    -- the journal has it as decided
    taker : (b : Top) × Contains (tops lines) b × (uid_number (uid_of lines b) ≡ hold.top) × (b.root ≡ t.root)
    taker =
        let n : IsOfNode w a = kept_nodes hd w keeping a whose.1 in
        let c : IsCommittedIn lines a.uid = (let o = h.holds in let b = o.begun in let j = b.journalled in
        j.said a.uid n.node n.there (ap (disk.decided S) whose.2 ∙ decided_h)) in
        found (subst (IsDone lines) (one_act (acts lines) distinct c.0 a (in_from c.0 (acts lines) c.1) a_there c.2) c.3)

  pub takers : TakersAreCommitted w.event lines S
  takers t hold new decided_t prepared decided_h same_root = taker t hold new decided_t decided_h same_root
