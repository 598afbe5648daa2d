-- Which tops are idle is known, whatever else is kept.
use Rattle.arj_law_parts.proofs.Words
use Words.{◌≡◌, ℕ, true, List, [], ◌++◌, Some, sym, subst, Line, Uid, Doing, doing_of, Disk, Parts, Branch, branch_of, Seen}
use Words.ending
use Rattle.arj_law_disk_view.proofs.Terms.{up, book, is_decided, is_top, new_book, IsIdle, IsKept, AreRight}
use Rattle.arj_law_runs.proofs.journal.{Closed.idle_stays, Idles.alone_is_idle}

-- Which tops are idle is said of a journal: a top that committed while nobody took part in it is idle,
-- and a decided one stays so as the journal goes on; nodes are good and know the journal there.
pub record KnowsIdle (R : Seen → Type 0) (Idle : List Line → Uid → Type 0) : Type 0 where
  pub stays : (M : Seen) → R M → IsKept M → (before more : List Line) (u : Uid) → M.lines ≡ before ++ more →
      is_decided (book before) u ≡ true → Idle before u → Idle M.lines u
  pub alone : (k : ℕ) (d : Disk) (t : Parts) (M : Seen) → R (up k d t M) → IsKept (up k d t M) → (u : Uid) (b : Branch) (q : Doing) →
      branch_of u t.coord.tree ≡ Some b → doing_of u t.coord ≡ Some q → b.ended ≡ Some ending.Commit → is_top b.kind ≡ true → q.took ≡ [] →
      Idle M.lines u

pub knows_idle : (R : Seen → Type 0) → KnowsIdle R (λ lines u. IsIdle (book lines) u)
knows_idle R = record {
  stays = λ M r kept before more u is decided idle.
      subst (λ ls. IsIdle (book ls) u) (sym is) (idle_stays before more u (subst (AreRight new_book) is (let w = kept.1 in w.right)) idle);
  alone = λ k d t M r kept u b q found does committed top took. alone_is_idle k d t M kept u
      (record { branch = b; doing = q; found = found; does = does; committed = committed; top = top; took = took });
}
