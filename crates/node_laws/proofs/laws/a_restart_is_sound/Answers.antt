use Rattle.node_laws.proofs.Restored.{book_sound, front_sound, front_decided, book_more}
use Rattle.node_laws.proofs.Reopened.{reopened_is, place_reopened, count_is, latest_is, in_turn}
use Rattle.node_laws.proofs.Cuts.{own_along}
use Rattle.node_laws.proofs.CutNodes.{sound_reopened}
use Rattle.node_laws.proofs.CutRested.{undamaged}
use Rattle.node_laws.proofs.Undamaged.{read_again}
use Rattle.node_laws.proofs.CertifiedBooks.{certified_book, held_book}
use Rattle.node_laws.proofs.laws.a_restart_is_sound.Goals as goal

pub returns-clause-book : goal.returns-clause-book
returns-clause-book g c = λ stated view n is first. book_sound stated view n is first

pub returns-clause-front : goal.returns-clause-front
returns-clause-front g c = λ secret stated views entries k is. front_sound secret stated views entries k is

pub returns-clause-decided : goal.returns-clause-decided
returns-clause-decided g c = λ past entries k. front_decided past entries k

pub returns-clause-more : goal.returns-clause-more
returns-clause-more g c = λ secret stated more views entries grows is. book_more stated more grows secret views entries is

pub returns-clause-reopened : goal.returns-clause-reopened
returns-clause-reopened g c = λ secret id stated view period entries viewed book none. sound_reopened g.S.Service.meaning secret id stated view period entries viewed book none

pub returns-clause-node : goal.returns-clause-node
returns-clause-node g c = λ o e es. reopened_is g.S.Service.meaning o e es

pub returns-clause-place : goal.returns-clause-place
returns-clause-place g c = λ secret id stated view period views entries book none. place_reopened g.S.Service.meaning secret id stated view period views entries book none

pub returns-clause-turn : goal.returns-clause-turn
returns-clause-turn g c = λ secret stated views before d after book. in_turn secret stated views before d after book

pub returns-clause-read : goal.returns-clause-read
returns-clause-read g c = λ entries fit. read_again entries fit

pub returns-clause-undamaged : goal.returns-clause-undamaged
returns-clause-undamaged g c = λ secret stated view entries viewed book none fit. undamaged secret stated view entries viewed book none fit

pub returns-clause-count : goal.returns-clause-count
returns-clause-count g c = λ secret stated views entries book none. count_is secret stated views entries book none

pub returns-clause-latest : goal.returns-clause-latest
returns-clause-latest g c = λ secret stated views entries book. latest_is secret stated views entries book

pub returns-clause-held : goal.returns-clause-held
returns-clause-held g c = λ secret stated views entries d book there. held_book secret stated views entries d book there

pub returns-clause-certified : goal.returns-clause-certified
returns-clause-certified g c = λ secret stated views entries d book there v holds. certified_book secret stated views entries d book there v holds

pub returns-clause-along : goal.returns-clause-along
returns-clause-along g c = λ secret stated views entries book none. own_along secret stated views entries book none
