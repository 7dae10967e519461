use Rattle.node_laws.proofs.CutShown.{shown_written}
use Rattle.node_laws.proofs.CutRested.{undamaged_cut}
use Rattle.node_laws.proofs.CutNodes.{sound_behind, sound_written}
use Rattle.node_laws.proofs.Cuts.{behind_place, book_upto, cut_counts, cut_decides, cut_regency, cut_reopened, cut_slice, read_cut}
use Rattle.node_laws.proofs.laws.a_restart_from_a_checkpoint_goes_on.Goals as goal

pub returns-clause-read : goal.returns-clause-read
returns-clause-read g c = λ place entries fit. read_cut place entries fit

pub returns-clause-undamaged : goal.returns-clause-undamaged
returns-clause-undamaged g c = λ secret stated view place batches entries are book has upto along fit. undamaged_cut secret stated view place batches entries are book has upto along fit

pub returns-clause-promised : goal.returns-clause-promised
returns-clause-promised g c = λ secret stated views place number entries book most. cut_regency place number entries (book_upto secret stated views entries book number most)

pub returns-clause-decided : goal.returns-clause-decided
returns-clause-decided g c = λ secret stated views place entries book. cut_decides secret stated views place entries book

pub returns-clause-listed : goal.returns-clause-listed
returns-clause-listed g c = λ secret stated views place batches entries book upto along. cut_slice secret stated views place batches entries book upto along

pub returns-clause-count : goal.returns-clause-count
returns-clause-count g c = λ secret stated views place entries book has upto. cut_counts secret stated views place entries book has upto

pub returns-clause-placed : goal.returns-clause-placed
returns-clause-placed g c = λ view place batches entries has along. behind_place g.S.Service.meaning view place batches entries has along

pub returns-clause-node : goal.returns-clause-node
returns-clause-node g c = λ secret id stated view views period place batches checkpoint e es book has upto along.
    cut_reopened g.S.Service.meaning secret id stated view views period place batches checkpoint e es book has upto along

pub returns-clause-reopened : goal.returns-clause-reopened
returns-clause-reopened g c = λ secret id stated view period place batches checkpoint e es are book has upto along.
    sound_behind g.S.Service.meaning secret id stated view period place batches checkpoint e es are book has upto along

pub returns-clause-written : goal.returns-clause-written
returns-clause-written g c = λ stated view n diary more is book made has some. sound_written stated view n diary more is book made has some

pub returns-clause-shown : goal.returns-clause-shown
returns-clause-shown g c = λ stated view n diary more j h is book made count has some there low. shown_written stated view n diary more j h is book made count has some there low
