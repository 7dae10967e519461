use Rattle.replica_laws.proofs.BookFronts.{front_by_itself, front_restarts, opening_along, order_along, sound_longer, sound_shorter, views_known}
use Rattle.replica_laws.proofs.Ordered.{ordered-opened}
use Rattle.replica_laws.proofs.Resumed.{order_reopened}
use Rattle.replica_laws.proofs.laws.a_member_restarts_from_each_front.Goals as goal

pub returns : goal.returns
returns g c = record {
  opened = λ o. (ordered-opened g.S.Service.meaning o).order;
  reopened = λ o entries. order_reopened g.S.Service.meaning o entries;
  along = λ base n events d quiet. (order_along g.S.Service.meaning base n events quiet d, opening_along g.S.Service.meaning n events);
  known = λ view list n d. views_known g.S.Service.meaning view list n d;
  longer = λ secret stated view list more entries viewed alone few made. (
    λ is. sound_longer secret stated view list more entries viewed alone few made is,
    λ is. sound_shorter secret stated view list more entries viewed alone few made is,
  );
  front = λ stated first n k is d began none. front_by_itself g.S.Service.meaning stated first n is d began none k;
  restarts = λ stated first n id period k is d began none. front_restarts g.S.Service.meaning stated first n is d began none id period k;
}
