use Rattle.std.proofs.Common.{◌≡◌, ℕ, List, Option, Err, IfErr, sym, ap, subst, Vec}
use Rattle.std.specs.Prelude.{IfSome}
use Rattle.std.specs.Global.{Global}
use Rattle.std.proofs.lemmas.Result.{IfOk-at_ok, err_from_is_err_and}
use Rattle.jx_wire.specs.Requests.{CallsFor, HasWrongParameters, IsNamed, IsNoMessage, IsRefusedFor, IsRequest}
use Rattle.jx_wire.specs.Values.{value_at, Says}
use Rattle.jx_wire.specs.declared.call.Request.{Request}
use Rattle.jx_wire.specs.declared.request_fault.RequestFault.{RequestFault}
use Rattle.jx_wire.proofs.request.request_of.Goals as goal

pub returns-in-Ok-call_of-clause-says : goal.returns-in-Ok-call_of-clause-says
returns-in-Ok-call_of-clause-says c =
    let body : List ℕ = c.in-Ok.message in
    let same : body ≡ c.args.body.now = IfOk-at_ok (λ m. m ≡ c.args.body.now) c.in-Ok.is c.in_ok-message.ensures.same in
    let request : Request = record { id = c.in_ok-id.id; call = c.in-Ok-call_of.call } in
    let named = subst (λ (o : Option (Vec ℕ Global)). IfSome o (λ n. Says body (λ at. IsNamed at n.items))) c.in-Some.is c.in_ok-name.ensures.some in
    subst (λ (l : List ℕ). Says l (λ at. IsRequest at request)) same (λ tree is. record {
      name = c.in-Some.name.items;
      message = record { named = named tree is; marked = c.in_ok-id.ensures.ok tree is };
      calls = subst (λ (l : List ℕ). CallsFor (value_at body tree) l request.id request.call) c.deref.ensures.value (c.in-Ok-call_of.ensures.ok tree is);
    })

pub returns-in-Err-Wrong-clause-why : goal.returns-in-Err-Wrong-clause-why
returns-in-Err-Wrong-clause-why c =
    let body : List ℕ = c.in-Ok.message in
    let same : body ≡ c.args.body.now = IfOk-at_ok (λ m. m ≡ c.args.body.now) c.in-Ok.is c.in_ok-message.ensures.same in
    let id = c.in_ok-id.id in
    let named = subst (λ (o : Option (Vec ℕ Global)). IfSome o (λ n. Says body (λ at. IsNamed at n.items))) c.in-Some.is c.in_ok-name.ensures.some in
    subst (λ (l : List ℕ). Says l (λ at. HasWrongParameters at id)) same (λ tree is. record {
      name = c.in-Some.name.items;
      message = record { named = named tree is; marked = c.in_ok-id.ensures.ok tree is };
      none = λ asked h. c.in-Err-Wrong.ensures.wrong (ap Err c.in-Err-Wrong.field-0-is) tree is asked (subst (λ (l : List ℕ). CallsFor (value_at body tree) l id asked) (sym c.deref.ensures.value) h);
    })

-- where the id is refused the whole is refused for the same fault: what reads the id tells why, and its fault is handed on as it is
pub returns-in_err-id-clause-why : goal.returns-in_err-id-clause-why
returns-in_err-id-clause-why c =
    let body : List ℕ = c.args.body.now in
    let same : c.in-Ok.message ≡ body = IfOk-at_ok (λ message. message ≡ body) c.in-Ok.is c.in_ok-message.ensures.same in
    let handed = err_from_is_err_and c.from_residual-in_err-id.result c.from_residual-in_err-id.ensures.1 in
    let refused : List ℕ → RequestFault → Type 0 = λ bytes fault. Says bytes (λ tree. IsRefusedFor tree fault) in
    let fault : RequestFault = c.in_err-id.field-0.0 in
    let why : refused body fault = subst (λ (bytes : List ℕ). refused bytes fault) same c.in_err-id.ensures.why in
    let given = handed.1 in
    let alike = handed.2 in
    let told : refused body handed.0 = subst (refused body) (sym alike) why in
    subst (λ answer. IfErr answer (refused body)) (sym given) told

pub returns-in_default-clause-why : goal.returns-in_default-clause-why
returns-in_default-clause-why c =
    let body : List ℕ = c.in-Ok.message in
    let same : body ≡ c.args.body.now = IfOk-at_ok (λ m. m ≡ c.args.body.now) c.in-Ok.is c.in_ok-message.ensures.same in
    let id = c.in_ok-id.id in
    subst (λ (l : List ℕ). Says l (λ at. IsNoMessage at id)) same (λ tree is. record {
      marked = (c.in_ok-id.ensures.ok tree is).0;
      none = λ marked name h. c.in_ok-name.ensures.none c.in_default.is tree is name h.named;
    })
