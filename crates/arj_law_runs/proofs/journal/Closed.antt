-- Below a top whose commit was called all have ended, and nothing begins, calls or ends there any more.
use Rattle.arj_law_parts.proofs.Words
use Words.{◌≡◌, ◌⊎◌, ◌||◌, ℕ, List, [], ◌∷◌, ◌++◌, Bool, true, false, length, Option, Some, None, refl, sym, ◌∙◌, ap, subst, inl, inr}
use Words.{⊎_elim, Contains, cons_option, uid_cases, uid_is, is_on, uid_eq, Uid, Body, Line, In, in_from, in_to, behind, name, Label}
use Rattle.arj_law_runs.proofs.Terms
use Terms.{option_map, Act, act_in, path, uids, Access, Book, book, book_from, is_over, is_top, new_book, turned, with_access, IsIdle}
use Terms.{AreDistinct, AreRight, BeginsIn, IsClosed, IsOpen, IsOpenSo, Right, has_act}
use Terms.body
use Rattle.arj_law_runs.proofs.journal
use journal.Books.{Later, Sane, later_turn, named_is, never, or_which, over_by_abort, over_by_commit, over_by_end, sane_new, sane_turn}
use journal.Books.{book_more, is_open}
use journal.Models.{AreSound, among, named_in, sound_turn}
use journal.Ties.{named_label, on_new, path_new, path_old}

-- who has an end has it for good
over_turn : (B : Book) (b : Body) (u : Uid) → is_over B u ≡ true → is_over (turned B b) u ≡ true
over_turn B b u is = ⊎_elim
    (λ on. over_by_commit (turned B b) u (l.committed u on))
    (λ rest. ⊎_elim (λ on. over_by_abort (turned B b) u (l.aborted u on)) (λ on. over_by_end (turned B b) u (ended b on))
    (or_which (is_on B.aborted u) (is_on B.ended u) rest))
    (or_which (is_on B.committed u) (is_on B.aborted u || is_on B.ended u) is)
  where
    l : Later B (turned B b)
    l = later_turn B b

    more : (o : Option Uid) → is_on B.ended u ≡ true → is_on (cons_option o B.ended) u ≡ true
    more None on = on
    more (Some w) on = by (uid_eq w u)
      where
        by : (x : Bool) → (x || is_on B.ended u) ≡ true
        by true = refl
        by false = on

    ended : (c : Body) → is_on B.ended u ≡ true → is_on (let V = turned B c in V.ended) u ≡ true
    ended (body.Ended m) on = more (option_map (λ (a : Act). a.uid) (act_in B.acts (name m))) on
    ended (body.Began m k w p) on = on
    ended (body.Committing m) on = on
    ended (body.Committed m) on = on
    ended (body.Aborted m c) on = on
    ended (body.Recovered n w) on = on
    ended (body.Ok m x o r) on = on
    ended (body.Includes m x n) on = on
    ended c on = on

-- acts of one Uid are one
pub one_act : (xs : List Act) → AreDistinct xs → (a b : Act) → In a xs → In b xs → a.uid ≡ b.uid → a ≡ b
one_act [] apart a b i j same = absurd i
one_act (x ∷ xs) apart a b (inl i) (inl j) same = sym i ∙ j
one_act (x ∷ xs) apart a b (inl i) (inr j) same =
    absurd (never (among xs b j) (ap (has_act xs) (sym same ∙ ap (λ (y : Act). y.uid) (sym i)) ∙ apart.2))
one_act (x ∷ xs) apart a b (inr i) (inl j) same =
    absurd (never (among xs a i) (ap (has_act xs) (same ∙ ap (λ (y : Act). y.uid) (sym j)) ∙ apart.2))
one_act (x ∷ xs) apart a b (inr i) (inr j) same = one_act xs apart.3 a b i j same

-- What is below a top whose commit was called has ended; who committed as a top had its commit called, and a commit is called of tops.
pub record Closes (B : Book) : Type 0 where
  pub closed : (u : Uid) → is_on B.called u ≡ true → IsClosed B u
  pub tops : (a : Act) → In a B.acts → is_top a.kind ≡ true → is_on B.committed a.uid ≡ true → is_on B.called a.uid ≡ true
  pub calls : (a : Act) → In a B.acts → is_on B.called a.uid ≡ true → is_top a.kind ≡ true

-- who is among these with one more is that one, or was among them
on_cases : (w u : Uid) (us : List Uid) → is_on (w ∷ us) u ≡ true → (w ≡ u) ⊎ (is_on us u ≡ true)
on_cases w u us on = ⊎_elim (λ same. inl (uid_is w u same)) (λ old. inr old) (or_which (uid_eq w u) (is_on us u) on)

-- an open action whose commit isn't called isn't below one whose commit was
not_below : (B : Book) (l : Label) → Closes B → (s : Act) → IsOpen B l s → is_on B.called s.uid ≡ false → (a : Act) →
    act_in B.acts (name l) ≡ Some a → (u : Uid) → is_on B.called u ≡ true → is_on (uids (path B.acts a.label)) u ≡ true → ⊥
not_below B l c s opened quiet a named u called on = ⊎_elim
    (λ same. never (ap (is_on B.called) same ∙ called) (ap (λ (x : Act). is_on B.called x.uid) (sym is) ∙ quiet))
    (λ other. never (c.closed u called a (in_to a B.acts (named_in B.acts (name l) a named)) on other)
    (ap (λ (x : Act). is_over B x.uid) (sym is) ∙ opened.unended)) (uid_cases a.uid u)
  where
    is : s ≡ a
    is = let e : ◌≡◌ {A = Option Act} (Some s) (Some a) = sym opened.named ∙ named in cc

pub closes_turn : (B : Book) (b : Body) → Right B b → Sane B → AreSound B.acts → Closes B → Closes (turned B b)
closes_turn B b right sane sound c = by b right
  where
    -- where actions and calls are the same
    still : (d : Body) → (let V = turned B d in V.acts) ≡ B.acts → (let V = turned B d in V.called) ≡ B.called → (u : Uid) →
        is_on (let V = turned B d in V.called) u ≡ true → IsClosed (turned B d) u
    still d acts called u on a there below other = over_turn B d a.uid (c.closed u (ap (λ us. is_on us u) (sym called) ∙ on) a
        (subst (λ xs. Contains xs a) acts there) (ap (λ xs. is_on (uids (path xs a.label)) u) (sym acts) ∙ below) other)

    by : (d : Body) → Right B d → Closes (turned B d)
    by (body.Began l h w p) r = record {
      closed = λ u on a there below other. ⊎_elim
          (λ same. absurd (new_one u on (on_new new B.acts u (ap (λ q. is_on (uids q) u) (sym (path_new new B.acts))
          ∙ ap (λ (x : Act). is_on (uids (path (new ∷ B.acts) x.label)) u) same ∙ below))))
          (λ i. c.closed u on a (in_to a B.acts i) (ap (λ q. is_on (uids q) u) (sym (path_old new B.acts a r.0 i)) ∙ below) other)
          (in_from a (new ∷ B.acts) there);
      tops = λ a i top on. ⊎_elim (λ same. absurd (never (sane.committed w (ap (λ (x : Act). is_on B.committed x.uid) same ∙ on)) r.1))
          (λ old. c.tops a old top on) i;
      calls = λ a i on. ⊎_elim (λ same. absurd (never (sane.called w (ap (λ (x : Act). is_on B.called x.uid) same ∙ on)) r.1))
          (λ old. c.calls a old on) i;
    }
      where
        new : Act
        new = record { id = length B.acts; label = name l; kind = h; uid = w; parent = option_map name p }

        new_one : (u : Uid) → is_on B.called u ≡ true →
            (u ≡ w) ⊎ ((q : List ℕ) × (option_map name p ≡ Some q) × (is_on (uids (path B.acts q)) u ≡ true)) → ⊥
        new_one u on (inl same) = never (sane.called w (ap (is_on B.called) (sym same) ∙ on)) r.1
        new_one u on (inr (q, is, above)) = up p r.3 is
          where
            up : (o : Option Label) → BeginsIn B w o → option_map name o ≡ Some q → ⊥
            up None g e = cc e
            up (Some m) (s, opened, quiet, node, inc) e =
                let at_name : name m ≡ q = (let k : ◌≡◌ {A = Option (List ℕ)} (Some (name m)) (Some q) = e in cc) in
                not_below B m c s opened quiet s opened.named u on
                (ap (λ x. is_on (uids (path B.acts x)) u) (named_label B.acts (name m) s opened.named ∙ at_name) ∙ above)
    by (body.Committing l) r = let a = r.0 in let o = r.1 in record {
      closed = λ u on x there below other. ⊎_elim
          (λ same. subst (IsClosed B) same r.4 x there below other)
          (λ old. c.closed u old x there below other)
          (on_cases a.uid u B.called (ap (λ us. is_on us u) (sym (named_is B.acts l B.called a o.named)) ∙ on));
      tops = λ x i top on. let t = later_turn B (body.Committing l) in t.called x.uid (c.tops x i top on);
      calls = λ x i on. ⊎_elim
          (λ same. let one : a ≡ x = one_act B.acts sound.distinct a x (named_in B.acts (name l) a o.named) i same in
          ap (λ (y : Act). is_top y.kind) (sym one) ∙ r.2)
          (λ old. c.calls x i old)
          (on_cases a.uid x.uid B.called (ap (λ us. is_on us x.uid) (sym (named_is B.acts l B.called a o.named)) ∙ on));
    }
    by (body.Committed l) r = let s = r.0 in let o = r.1 in record {
      closed = still (body.Committed l) refl refl;
      tops = λ x i top on. ⊎_elim
          (λ same. let one : s ≡ x = one_act B.acts sound.distinct s x (named_in B.acts (name l) s o.named) i same in
          ap (λ (y : Act). is_on B.called y.uid) (sym one) ∙ r.3 ∙ ap (λ (y : Act). is_top y.kind) one ∙ top)
          (λ old. c.tops x i top old)
          (on_cases s.uid x.uid B.committed (ap (λ us. is_on us x.uid) (sym (named_is B.acts l B.committed s o.named)) ∙ on));
      calls = c.calls;
    }
    by (body.Aborted l why) r = record { closed = still (body.Aborted l why) refl refl; tops = c.tops; calls = c.calls }
    by (body.Ended l) r = record { closed = still (body.Ended l) refl refl; tops = c.tops; calls = c.calls }
    by (body.Recovered n w) r = record { closed = still (body.Recovered n w) refl refl; tops = c.tops; calls = c.calls }
    by (body.Ok l x o a) r = record { closed = still (body.Ok l x o a) refl refl; tops = c.tops; calls = c.calls }
    by (body.Includes l x n) r = record { closed = still (body.Includes l x n) refl refl; tops = c.tops; calls = c.calls }
    by d r = c

-- a book that is sane, sound and closed
pub record Stands (B : Book) : Type 0 where
  pub sane : Sane B
  pub sound : AreSound B.acts
  pub closes : Closes B

pub stands_turn : (B : Book) (b : Body) → Right B b → Stands B → Stands (turned B b)
stands_turn B b right s = record {
  sane = sane_turn B b right s.sane;
  sound = sound_turn B b right s.sound;
  closes = closes_turn B b right s.sane s.sound s.closes;
}

pub stands_lines : (B : Book) (ls : List Line) → AreRight B ls → Stands B → Stands (book_from B ls)
stands_lines B [] right s = s
stands_lines B (l ∷ ls) right s = stands_lines (turned B l.body) ls right.1 (stands_turn B l.body right.0 s)

pub stands_new : Stands new_book
stands_new = record {
  sane = sane_new;
  sound = record { distinct = tt; formed = tt };
  closes = record { closed = λ u on. absurd (cc on); tops = λ a i top on. absurd i; calls = λ a i on. absurd i };
}

-- ---- an idle top stays so

idle_turn : (B : Book) (b : Body) (u : Uid) → Right B b → Stands B → IsIdle B u → IsIdle (turned B b) u
idle_turn B b u right s idle = record { called = let l = later_turn B b in l.called u idle.called; cut = by b right }
  where
    -- an access more, of an action that isn't below the top
    more : (l : Label) (x : ℕ) (o : Option ℕ) → IsOpenSo false B l → (a : Access) →
        Contains (with_access (act_in B.acts (name l)) x o B.accesses) a → is_on (uids (path B.acts (let c = a.act in c.label))) u ≡ true →
        (w : Uid) × (is_on (behind u (uids (path B.acts (let c = a.act in c.label)))) w ≡ true) × (is_on B.aborted w ≡ true)
    more l x o open_so a there on =
        let i = open_so.1 in
        let new : Access = record { act = open_so.0; x = x; store = o } in
        ⊎_elim
        (λ same. absurd (not_below B l (let z = s in z.closes) open_so.0 (is_open B l open_so.0 i) open_so.2 open_so.0 i.named u idle.called
        (ap (λ (y : Access). is_on (uids (path B.acts (let c = y.act in c.label))) u) same ∙ on)))
        (λ old. idle.cut a (in_to a B.accesses old) on)
        (in_from a (new ∷ B.accesses) (subst (λ rs. Contains rs a) (ap (λ z. with_access z x o B.accesses) i.named) there))

    by : (d : Body) → Right B d → (a : Access) → Contains (let V = turned B d in V.accesses) a →
        is_on (uids (path (let V = turned B d in V.acts) (let c = a.act in c.label))) u ≡ true → (w : Uid) × (is_on (behind u (uids
        (path (let V = turned B d in V.acts) (let c = a.act in c.label)))) w ≡ true) × (is_on (let V = turned B d in V.aborted) w ≡ true)
    by (body.Began l h w p) r a there on =
        let new : Act = record { id = length B.acts; label = name l; kind = h; uid = w; parent = option_map name p } in
        let same = path_old new B.acts a.act r.0 (in_from a.act B.acts (let z = s.sane in z.acted a there)) in
        let x = idle.cut a there (ap (λ q. is_on (uids q) u) (sym same) ∙ on) in
        (x.0, ap (λ q. is_on (behind u (uids q)) x.0) same ∙ x.1, x.2)
    by (body.Aborted l why) r a there on = let x = idle.cut a there on in let t = later_turn B (body.Aborted l why) in
        (x.0, x.1, t.aborted x.0 x.2)
    by (body.Ok l x o q) r a there on = more l x None r a there on
    by (body.Includes l x n) r a there on = more l x (Some n) r a there on
    by (body.Committing l) r a there on = idle.cut a there on
    by (body.Committed l) r a there on = idle.cut a there on
    by (body.Ended l) r a there on = idle.cut a there on
    by (body.Recovered n w) r a there on = idle.cut a there on
    by d r a there on = idle.cut a there on

idle_from : (B : Book) (ls : List Line) (u : Uid) → AreRight B ls → Stands B → IsIdle B u → IsIdle (book_from B ls) u
idle_from B [] u right s idle = idle
idle_from B (l ∷ ls) u right s idle =
    idle_from (turned B l.body) ls u right.1 (stands_turn B l.body right.0 s) (idle_turn B l.body u right.0 s idle)

-- lines are right in front, and behind that
right_parts : (B : Book) (ls ks : List Line) → AreRight B (ls ++ ks) → AreRight B ls × AreRight (book_from B ls) ks
right_parts B [] ks right = (tt, right)
right_parts B (l ∷ ls) ks right = let p = right_parts (turned B l.body) ls ks right.1 in ((right.0, p.0), p.1)

pub idle_stays : (before more : List Line) (u : Uid) → AreRight new_book (before ++ more) → IsIdle (book before) u →
    IsIdle (book (before ++ more)) u
idle_stays before more u right idle =
    let p = right_parts new_book before more right in
    subst (λ V. IsIdle V u) (sym (book_more new_book before more))
    (idle_from (book before) more u p.1 (stands_lines new_book before p.0 stands_new) idle)
