use Rattle.rv_select.specs.Compared.{compared, first_register, second_register}
use Rattle.rv_select.specs.Places.{with_homes}
use Rattle.rv_select.proofs.Pushed.{read-at}
use Rattle.rv_select.proofs.compared.push_read_test.Goals as goal

pub returns : goal.returns
returns c =
    let a = c.args in
    let y = with_homes a.homes.now in
    let old = a.code.now.items in
    let r = c.push_test.result in
    let new = c.push_test.new.code.items in
    let first = first_register y a.held a.a a.b in
    read-at r old new (λ z. compared a.setting a.signed a.operator first z a.at a.first_edge a.second_edge a.first a.second)
    c.second_register-rb.result (second_register y a.held a.a a.b) c.second_register-rb.ensures
    (read-at r old new
    (λ z. compared a.setting a.signed a.operator z c.second_register-rb.result a.at a.first_edge a.second_edge a.first a.second)
    c.first_register-ra.result first c.first_register-ra.ensures c.push_test.ensures)
