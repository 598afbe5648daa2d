-- Includes begin, and what waits is given up: the tie of the journal is kept.
use Rattle.arj_law_parts.proofs.Words.{ℕ, ◌++◌, refl, Label, Steps, given_up, Coord, numbered}
use Rattle.arj_law_lock_view.proofs.Terms.{State, Acts, Codes, IsOnPage, Page, IsTiedToLines}
use Rattle.arj_law_lock_view.proofs.journal.{CallTies.bare_given, CallTies.bare_tied, CallTies.call_says, Pages.same_stay}

-- what is given up is nothing to the machine
pub other_lost_said : (act : Acts) (code : Codes) (x : ℕ) (p : Page) (c : Coord) (S : State) → IsOnPage act code x p c S →
    (s : Steps) (l : Label) → IsTiedToLines act code p.values x (p.lines ++ numbered p.event (call_says s (given_up s.at) l)) S
other_lost_said act code x p c S on s l =
    bare_tied act code x p c S S on s (given_up s.at) l (bare_given s.at) refl (refl, refl) (same_stay S) refl
