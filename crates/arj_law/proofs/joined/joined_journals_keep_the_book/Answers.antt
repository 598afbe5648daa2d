use Rattle.arj_law.proofs.{JoinedBook.book_join, JoinedOrder.serial_both}
use Rattle.arj_law.proofs.joined.joined_journals_keep_the_book.Goals as goal

pub returns-clause-serial : goal.returns-clause-serial
returns-clause-serial c values first second apart called = serial_both first second apart called values

pub returns-clause-book : goal.returns-clause-book
returns-clause-book c values first second apart called = book_join first second apart called values
