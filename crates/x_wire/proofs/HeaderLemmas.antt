-- Headers are what the form of headers leads to; what is refused, and what is not.
use Rattle.std.proofs.Common.{◌≡◌, ℕ, zero, suc, ◌+◌, ◌-◌, ◌*◌, ◌^◌, ◌<◌, ◌≤◌, List, [], ◌∷◌, ◌++◌, length}
use Rattle.std.proofs.Common.{refl, sym, ◌∙◌, ap, subst, append_assoc, arith, inl, inr, lit<, Bool, true}
use Rattle.std.proofs.Common.{false}
use Rattle.std.specs.Prelude.{Some, None, Option, if◌then◌else◌, ◌==◌, nat_lt, drop}
use Rattle.std.specs.Int.{from_be_bytes, w32}
use Rattle.std.proofs.lemmas.List.{append-nil, length-append}
use Rattle.std.proofs.lemmas.Bool.{cases_lt}
use Rattle.x_value.specs.declared.fault.ReadCode.{ReadCode}
use Rattle.x_value.specs.declared.fault.ReadCode.TheVariants as codes
use Rattle.x_value.specs.Readings.{IsByteList}
use Rattle.x_units.specs.Units.{are_zeros}
use Rattle.x_value.proofs.Fronts.{cut_longer, append_is_nil}
use Rattle.x_wire.specs.Limits.{most_auth_bytes}
use Rattle.x_wire.specs.declared.messages.parts.AcceptStat.{AcceptStat}
use Rattle.x_wire.specs.declared.messages.parts.AcceptStat.TheVariants as accepts
use Rattle.x_wire.specs.declared.messages.parts.Reply.TheVariants as replies
use Rattle.x_wire.specs.declared.messages.parts.MessageKind.{MessageKind}
use Rattle.x_wire.specs.declared.messages.parts.MessageKind.TheVariants as kinds
use Rattle.x_wire.specs.Messages.{auth_of, accept_of, results_of, header_of_kind, body_of_kind}
use Rattle.x_wire.specs.Headers.{Auth, Accept, Success, ProgUnavail, ProgMismatch, ProcUnavail, GarbageArgs}
use Rattle.x_wire.specs.Headers.{SystemErr, Reject, RpcMismatch, AuthError, Header, Call, Accepted, Denied}
use Rattle.x_wire.specs.Headers.{HeaderField, Number, State, Length, Body, AreHeaderFields, fields_bytes}
use Rattle.x_wire.specs.Headers.{header_fields, header_bytes, IsHeader, IsBare, IsMessage}
use Rattle.x_wire.specs.HeaderFaults.{UnitKind, AnyUnit, StateUnit, LengthUnit, PaddedUnit, fields_units}
use Rattle.x_wire.specs.HeaderFaults.{unit_fault, BeginsHeader, NoFrontIsHeader, IsHeaderFault, trailing}
use Rattle.x_wire.specs.HeaderFaults.{bad_unit, cut_short}
use Rattle.x_wire.specs.HeaderForms.{IsOfKind, HeaderForm, Whole, Next, Path, auth, number_form, state_form}
use Rattle.x_wire.specs.HeaderForms.{length_form, body_form, auth_form, call_form, accept_form, reject_form}
use Rattle.x_wire.specs.HeaderForms.{denied_form, reply_form, kind_form, header_form, Reads, BegunForm}
use Rattle.x_wire.specs.HeaderForms.{BadForm, CutForm, FormFault, ends, stops, trails}
use Rattle.x_wire.proofs.Forms.{fields_fill, one_path}

-- ---- the fields of a header are a path

accept_path : (xid : ℕ) (verf : Auth) (a : Accept) → AreHeaderFields (header_fields (Accepted xid verf a))
    → Path header_form (header_fields (Accepted xid verf a)) (Whole (Accepted xid verf a))
accept_path xid verf Success h = (
  h.0,
  (
    (refl, lit< tt, lit< tt),
    (
      (refl, lit< tt, lit< tt),
      (h.1.1.1.0, (h.1.1.1.1.0, ((refl, h.1.1.1.1.1.0), ((refl, lit< tt, lit< tt), refl)))),
    ),
  ),
)
accept_path xid verf ProgUnavail h = (
  h.0,
  (
    (refl, lit< tt, lit< tt),
    (
      (refl, lit< tt, lit< tt),
      (h.1.1.1.0, (h.1.1.1.1.0, ((refl, h.1.1.1.1.1.0), ((refl, lit< tt, lit< tt), refl)))),
    ),
  ),
)
accept_path xid verf (ProgMismatch low high) h = (
  h.0,
  (
    (refl, lit< tt, lit< tt),
    (
      (refl, lit< tt, lit< tt),
      (
        h.1.1.1.0,
        (
          h.1.1.1.1.0,
          (
            (refl, h.1.1.1.1.1.0),
            ((refl, lit< tt, lit< tt), (h.1.1.1.1.1.1.1.0, (h.1.1.1.1.1.1.1.1.0, refl))),
          ),
        ),
      ),
    ),
  ),
)
accept_path xid verf ProcUnavail h = (
  h.0,
  (
    (refl, lit< tt, lit< tt),
    (
      (refl, lit< tt, lit< tt),
      (h.1.1.1.0, (h.1.1.1.1.0, ((refl, h.1.1.1.1.1.0), ((refl, lit< tt, lit< tt), refl)))),
    ),
  ),
)
accept_path xid verf GarbageArgs h = (
  h.0,
  (
    (refl, lit< tt, lit< tt),
    (
      (refl, lit< tt, lit< tt),
      (h.1.1.1.0, (h.1.1.1.1.0, ((refl, h.1.1.1.1.1.0), ((refl, lit< tt, lit< tt), refl)))),
    ),
  ),
)
accept_path xid verf SystemErr h = (
  h.0,
  (
    (refl, lit< tt, lit< tt),
    (
      (refl, lit< tt, lit< tt),
      (h.1.1.1.0, (h.1.1.1.1.0, ((refl, h.1.1.1.1.1.0), ((refl, lit< tt, lit< tt), refl)))),
    ),
  ),
)

reject_path : (xid : ℕ) (r : Reject) → AreHeaderFields (header_fields (Denied xid r))
    → Path header_form (header_fields (Denied xid r)) (Whole (Denied xid r))
reject_path xid (RpcMismatch low high) h = (
  h.0,
  (
    (refl, lit< tt, lit< tt),
    ((refl, lit< tt, lit< tt), ((refl, lit< tt, lit< tt), (h.1.1.1.1.0, (h.1.1.1.1.1.0, refl)))),
  ),
)
reject_path xid (AuthError stat) h = (
  h.0,
  ((refl, lit< tt, lit< tt), ((refl, lit< tt, lit< tt), ((refl, lit< tt, lit< tt), (h.1.1.1.1.0, refl)))),
)

pub header_path : (h : Header) → IsHeader h → Path header_form (header_fields h) (Whole h)
header_path (Call xid r p v q c w) h = (
  h.0,
  (
    (refl, lit< tt, lit< tt),
    (
      h.1.1.0,
      (
        h.1.1.1.0,
        (
          h.1.1.1.1.0,
          (
            h.1.1.1.1.1.0,
            (
              h.1.1.1.1.1.1.0,
              (
                h.1.1.1.1.1.1.1.0,
                (
                  (refl, h.1.1.1.1.1.1.1.1.0),
                  (
                    h.1.1.1.1.1.1.1.1.1.0,
                    (h.1.1.1.1.1.1.1.1.1.1.0, ((refl, h.1.1.1.1.1.1.1.1.1.1.1.0), refl)),
                  ),
                ),
              ),
            ),
          ),
        ),
      ),
    ),
  ),
)
header_path (Accepted xid verf a) h = accept_path xid verf a h
header_path (Denied xid r) h = reject_path xid r h

-- ---- each path is the fields of a header

-- whatever the form leads to is a header whose fields begin with these
Leads : HeaderForm → List HeaderField → Type 0
Leads (Whole h) before = IsHeader h × (header_fields h ≡ before)
Leads (Next k f) before = (g : HeaderField) → IsOfKind k g → Leads (f g) (before ++ (g ∷ []))

leads_path : (form : HeaderForm) (before fs : List HeaderField) (h : Header) → Leads form before
    → Path form fs (Whole h) → IsHeader h × (header_fields h ≡ before ++ fs)
unfolding Leads
leads_path (Whole a) before [] h l p =
    let is : a ≡ h = cc in
    (subst (λ t. IsHeader t) is l.0, ap (λ t. header_fields t) (sym is) ∙ l.1 ∙ sym (append-nil before))
leads_path (Whole a) before (f ∷ fs) h l p = absurd p
leads_path (Next k n) before [] h l p = absurd cc
leads_path (Next k n) before (f ∷ fs) h l p =
    let on = leads_path (n f) (before ++ (f ∷ [])) fs h (l f p.0) p.1 in
    (on.0, on.1 ∙ append_assoc before (f ∷ []) fs)

leads_number : (on : ℕ → HeaderForm) (before : List HeaderField)
    → ((n : ℕ) → n < 2 ^ 32 → Leads (on n) (before ++ (Number n ∷ []))) → Leads (number_form on) before
unfolding Leads
leads_number on before l (Number n) o = l n o
leads_number on before l (State c n) o = absurd o
leads_number on before l (Length n) o = absurd o
leads_number on before l (Body bs) o = absurd o

leads_state : (last : ℕ) (on : ℕ → HeaderForm) (before : List HeaderField)
    → ((n : ℕ) → n < suc last → Leads (on n) (before ++ (State (suc last) n ∷ [])))
    → Leads (state_form last on) before
unfolding Leads
leads_state last on before l (Number n) o = absurd o
leads_state last on before l (State c n) o =
    subst (λ t. Leads (on n) (before ++ (State t n ∷ []))) (sym o.0) (l n (subst (λ t. n < t) o.0 o.1))
leads_state last on before l (Length n) o = absurd o
leads_state last on before l (Body bs) o = absurd o

leads_length : (on : ℕ → HeaderForm) (before : List HeaderField)
    → ((n : ℕ) → n ≤ most_auth_bytes → Leads (on n) (before ++ (Length n ∷ [])))
    → Leads (length_form on) before
unfolding Leads
leads_length on before l (Number n) o = absurd o
leads_length on before l (State c n) o = absurd o
leads_length on before l (Length n) o = l n o
leads_length on before l (Body bs) o = absurd o

leads_body : (n : ℕ) (on : List ℕ → HeaderForm) (before : List HeaderField)
    → ((bs : List ℕ) → length bs ≡ n → IsByteList bs → Leads (on bs) (before ++ (Body bs ∷ [])))
    → Leads (body_form n on) before
unfolding Leads
leads_body n on before l (Number m) o = absurd o
leads_body n on before l (State c m) o = absurd o
leads_body n on before l (Length m) o = absurd o
leads_body n on before l (Body bs) o = l bs o.0 o.1

leads_auth : (on : Auth → HeaderForm) (before : List HeaderField) →
    ((a : Auth) → a.flavor < 2 ^ 32 → length a.body ≤ most_auth_bytes → IsByteList a.body
    → Leads (on a) (((before ++ (Number a.flavor ∷ [])) ++ (Length (length a.body) ∷ []))
    ++ (Body a.body ∷ []))) → Leads (auth_form on) before
leads_auth on before l =
    leads_number (λ flavor. length_form (λ n. body_form n (λ bs. on (auth flavor bs)))) before (λ flavor lf.
    leads_length (λ n. body_form n (λ bs. on (auth flavor bs))) (before ++ (Number flavor ∷ [])) (λ n ln.
    leads_body n (λ bs. on (auth flavor bs)) ((before ++ (Number flavor ∷ [])) ++ (Length n ∷ []))
    (λ bs long fit.
    subst (λ t. Leads (on (auth flavor bs))
    (((before ++ (Number flavor ∷ [])) ++ (Length t ∷ [])) ++ (Body bs ∷ []))) long
    (l (auth flavor bs) lf (subst (λ t. t ≤ most_auth_bytes) (sym long) ln) fit))))

leads_whole : (h : Header) (before : List HeaderField) → IsHeader h → header_fields h ≡ before
    → Leads (Whole h) before
unfolding Leads
leads_whole h before fit e = (fit, e)

-- what stands behind the fields of a call
abbrev pub by_cred : ℕ → ℕ → ℕ → ℕ → ℕ → Auth → HeaderForm
by_cred xid rpcvers prog vers proc cred =
    auth_form (λ verf. Whole (Call xid rpcvers prog vers proc cred verf))

abbrev pub by_proc : ℕ → ℕ → ℕ → ℕ → ℕ → HeaderForm
by_proc xid rpcvers prog vers proc = auth_form (λ cred. by_cred xid rpcvers prog vers proc cred)

abbrev pub by_vers : ℕ → ℕ → ℕ → ℕ → HeaderForm
by_vers xid rpcvers prog vers = number_form (λ proc. by_proc xid rpcvers prog vers proc)

abbrev pub by_prog : ℕ → ℕ → ℕ → HeaderForm
by_prog xid rpcvers prog = number_form (λ vers. by_vers xid rpcvers prog vers)

abbrev pub by_rpcvers : ℕ → ℕ → HeaderForm
by_rpcvers xid rpcvers = number_form (λ prog. by_prog xid rpcvers prog)

call_leads : (xid : ℕ) → xid < 2 ^ 32 → Leads (call_form xid) (Number xid ∷ (State 2 0 ∷ []))
call_leads xid lx =
    leads_number (by_rpcvers xid) _
    (λ r lr. leads_number (by_prog xid r) _
    (λ p lp. leads_number (by_vers xid r p) _ (λ v lv. leads_number (by_proc xid r p v) _ (λ q lq.
    leads_auth (by_cred xid r p v q) _
    (λ c cf cl cb. leads_auth (λ w. Whole (Call xid r p v q c w)) _ (λ w wf wl wb.
    leads_whole (Call xid r p v q c w) _
    (lx, (lit< tt, (lr, (lp, (lv, (lq, (cf, (cl, (cb, (wf, (wl, (wb, tt)))))))))))) refl))))))

accept_leads : (xid : ℕ) (verf : Auth) → xid < 2 ^ 32 → verf.flavor < 2 ^ 32
    → length verf.body ≤ most_auth_bytes → IsByteList verf.body → (n : ℕ) → n < 6 →
    Leads (accept_form xid verf n)
    (Number xid ∷ (State 2 1
    ∷ (State 2 0 ∷ (Number verf.flavor ∷ (Length (length verf.body) ∷ (Body verf.body ∷ (State 6 n ∷ [])))))))
accept_leads xid verf lx f l b zero lt =
    leads_whole (Accepted xid verf Success) _ (lx, (lit< tt, (lit< tt, (f, (l, (b, (lit< tt, tt))))))) refl
accept_leads xid verf lx f l b (suc zero) lt = leads_whole (Accepted xid verf ProgUnavail) _
    (lx, (lit< tt, (lit< tt, (f, (l, (b, (lit< tt, tt))))))) refl
accept_leads xid verf lx f l b (suc (suc zero)) lt =
    leads_number (λ low. number_form (λ high. Whole (Accepted xid verf (ProgMismatch low high)))) _
    (λ low ll. leads_number (λ high. Whole (Accepted xid verf (ProgMismatch low high))) _ (λ high lh.
    leads_whole (Accepted xid verf (ProgMismatch low high)) _
    (lx, (lit< tt, (lit< tt, (f, (l, (b, (lit< tt, (ll, (lh, tt))))))))) refl))
accept_leads xid verf lx f l b (suc (suc (suc zero))) lt = leads_whole (Accepted xid verf ProcUnavail) _
    (lx, (lit< tt, (lit< tt, (f, (l, (b, (lit< tt, tt))))))) refl
accept_leads xid verf lx f l b (suc (suc (suc (suc zero)))) lt = leads_whole (Accepted xid verf GarbageArgs) _
    (lx, (lit< tt, (lit< tt, (f, (l, (b, (lit< tt, tt))))))) refl
accept_leads xid verf lx f l b (suc (suc (suc (suc (suc zero))))) lt =
    leads_whole (Accepted xid verf SystemErr) _ (lx, (lit< tt, (lit< tt, (f, (l, (b, (lit< tt, tt))))))) refl
accept_leads xid verf lx f l b (suc (suc (suc (suc (suc (suc n)))))) lt = absurd (omega arith)

reject_leads : (xid : ℕ) → xid < 2 ^ 32 → (n : ℕ) → n < 2
    → Leads (reject_form xid n) (Number xid ∷ (State 2 1 ∷ (State 2 1 ∷ (State 2 n ∷ []))))
reject_leads xid lx zero lt =
    leads_number (λ low. number_form (λ high. Whole (Denied xid (RpcMismatch low high)))) _
    (λ low ll. leads_number (λ high. Whole (Denied xid (RpcMismatch low high))) _ (λ high lh.
    leads_whole (Denied xid (RpcMismatch low high)) _
    (lx, (lit< tt, (lit< tt, (lit< tt, (ll, (lh, tt)))))) refl))
reject_leads xid lx (suc zero) lt =
    leads_number (λ stat. Whole (Denied xid (AuthError stat))) _
    (λ stat ls. leads_whole (Denied xid (AuthError stat)) _
    (lx, (lit< tt, (lit< tt, (lit< tt, (ls, tt))))) refl)
reject_leads xid lx (suc (suc n)) lt = absurd (omega arith)

reply_leads : (xid : ℕ) → xid < 2 ^ 32 → (n : ℕ) → n < 2
    → Leads (reply_form xid n) (Number xid ∷ (State 2 1 ∷ (State 2 n ∷ [])))
reply_leads xid lx zero lt = leads_auth (λ verf. state_form 5 (λ n. accept_form xid verf n)) _
    (λ verf f l b. leads_state 5 (λ n. accept_form xid verf n) _
    (λ n ln. accept_leads xid verf lx f l b n ln))
reply_leads xid lx (suc zero) lt = leads_state 1 (λ n. reject_form xid n) _ (λ n ln. reject_leads xid lx n ln)
reply_leads xid lx (suc (suc n)) lt = absurd (omega arith)

kind_leads : (xid : ℕ) → xid < 2 ^ 32 → (n : ℕ) → n < 2
    → Leads (kind_form xid n) (Number xid ∷ (State 2 n ∷ []))
kind_leads xid lx zero lt = call_leads xid lx
kind_leads xid lx (suc zero) lt = leads_state 1 (λ n. reply_form xid n) _ (λ n ln. reply_leads xid lx n ln)
kind_leads xid lx (suc (suc n)) lt = absurd (omega arith)

header_leads : Leads header_form []
header_leads = leads_number (λ xid. state_form 1 (λ n. kind_form xid n)) []
    (λ xid lx. leads_state 1 (λ n. kind_form xid n) _ (λ n ln. kind_leads xid lx n ln))

path_header : (fs : List HeaderField) (h : Header) → Path header_form fs (Whole h)
    → IsHeader h × (header_fields h ≡ fs)
path_header fs h p = leads_path header_form [] fs h header_leads p

-- ---- no header is a front of what is refused

between_units : (u y e : ℕ) → 4 * y ≡ 4 * u + e → 0 < e → e < 4 → ⊥
between_units u y e eq pos lt = omega arith

-- of a proper front of a header nothing is a header
within_begun : (form : HeaderForm) (front c : List ℕ) (fs : List HeaderField) (h : Header)
    → BegunForm form front → Path form fs (Whole h) → front ≡ fields_bytes fs ++ c → ⊥
within_begun form front c fs h k p e =
    let same : fields_bytes fs ++ (c ++ k.rest) ≡ fields_bytes k.fields ++ [] =
    sym (append_assoc (fields_bytes fs) c k.rest) ∙ ap (λ t. t ++ k.rest) (sym e) ∙ k.parts
    ∙ sym (append-nil (fields_bytes k.fields)) in
    let none = append_is_nil c k.rest
    (one_path form fs k.fields h k.header (c ++ k.rest) [] p k.path same).1 in
    let l : length k.rest ≡ 0 = ap length none.1 in
    let some = k.some in
    omega arith

none_cut : (form : HeaderForm) (bytes : List ℕ) → CutForm form bytes
    → (fs : List HeaderField) (h : Header) (rest : List ℕ) → Path form fs (Whole h)
    → bytes ≡ fields_bytes fs ++ rest → ⊥
none_cut form bytes k fs h rest p e =
    elim (cases_lt (length k.front) (length (fields_bytes fs))) [
      | inr le ↦ (let c = cut_longer (fields_bytes fs) rest k.front k.tail (sym e ∙ k.parts) le in
          within_begun form k.front c.0 fs h k.begun p c.1)
      | inl lt ↦ (
          let c = cut_longer k.front k.tail (fields_bytes fs) rest (sym k.parts ∙ e) (omega arith) in
          let split : length (fields_bytes fs) ≡ length k.front + length c.0 = ap length c.1
          ∙ length-append k.front c.0 in
          let tails : length k.tail ≡ length c.0 + length rest = ap length c.2 ∙ length-append c.0 rest in
          between_units k.units (length (fields_units fs)) (length c.0) (sym (fields_fill fs) ∙ split
          ∙ ap (λ v. v + length c.0) k.whole) (omega arith) (let q = k.part in omega arith))
    ]

none_bad : (form : HeaderForm) (bytes : List ℕ) (left : ℕ) (code : ReadCode) → BadForm form bytes left code
    → (fs : List HeaderField) (h : Header) (rest : List ℕ) → Path form fs (Whole h)
    → bytes ≡ fields_bytes fs ++ rest → ⊥
none_bad form bytes left code k fs h rest p e =
    let why = k.cause k.begun.rest k.begun.fields k.begun.header k.begun.path k.begun.parts in
    let place : length k.front ≡ 4 * length why.0 = why.4 in
    elim (cases_lt (length k.front) (length (fields_bytes fs))) [
      | inr le ↦ (let c = cut_longer (fields_bytes fs) rest k.front (k.unit ++ k.rest) (sym e ∙ k.parts) le in
          within_begun form k.front c.0 fs h k.begun p c.1)
      | inl lt ↦ (
          let c = cut_longer k.front (k.unit ++ k.rest) (fields_bytes fs) rest (sym k.parts ∙ e)
          (omega arith) in
          let split : length (fields_bytes fs) ≡ length k.front + length c.0 = ap length c.1
          ∙ length-append k.front c.0 in
          elim (cases_lt (length c.0) (length k.unit)) [
            | inl short ↦ between_units (length why.0) (length (fields_units fs)) (length c.0)
                (sym (fields_fill fs) ∙ split ∙ ap (λ v. v + length c.0) place) (omega arith)
                (let q = k.wide in omega arith)
            | inr long ↦ (let d = cut_longer k.unit k.rest c.0 rest c.2 long in
                k.ended d.0 fs h p (sym (c.1 ∙ ap (λ v. k.front ++ v) d.1)))
          ])
    ]

-- ---- faults

begins_of : (front : List ℕ) → BegunForm header_form front → BeginsHeader front
begins_of front k =
    let is = path_header k.fields k.header k.path in
    (k.rest, k.header, is.0, k.parts ∙ ap (λ t. fields_bytes t) (sym is.1))

no_front : (bytes : List ℕ) → ((fs : List HeaderField) (h : Header) (rest : List ℕ)
    → Path header_form fs (Whole h) → bytes ≡ fields_bytes fs ++ rest → ⊥) → NoFrontIsHeader bytes
no_front bytes none h rest fit e = none (header_fields h) h rest (header_path h fit) e

pub fault_is : (bytes : List ℕ) (left at : ℕ) (code : ReadCode) → FormFault header_form bytes left code
    → at ≡ length bytes - left → IsHeaderFault bytes at code
fault_is bytes left at code (ends c l k) place = cut_short c (record {
  none = no_front bytes (none_cut header_form bytes k);
  place = place ∙ omega arith;
  front = k.front;
  tail = k.tail;
  parts = k.parts;
  units = k.units;
  whole = k.whole;
  part = k.part;
  begins = begins_of k.front k.begun;
})
fault_is bytes left at code (stops k) place = bad_unit (record {
  none = no_front bytes (none_bad header_form bytes left code k);
  front = k.front;
  unit = k.unit;
  rest = k.rest;
  parts = k.parts;
  place = (let l : length bytes ≡ length k.front + length (k.unit ++ k.rest) = ap length k.parts
      ∙ length-append k.front (k.unit ++ k.rest) in let q = k.place in place ∙ omega arith);
  wide = k.wide;
  begins = begins_of k.front k.begun;
  ended = λ b. k.ended b.0 (header_fields b.1) b.1 (header_path b.1 b.2)
      (sym (append_assoc k.front k.unit b.0) ∙ b.3);
  cause = λ h y fit e. k.cause y (header_fields h) h (header_path h fit) e;
})
fault_is bytes left at code (trails c h rest k bare some l) place =
    let is = path_header k.fields h k.path in
    let same : fields_bytes k.fields ≡ header_bytes h = ap (λ t. fields_bytes t) (sym is.1) in
    let parts : bytes ≡ header_bytes h ++ rest = k.parts ∙ ap (λ t. t ++ rest) same in
    let len : length bytes ≡ length (header_bytes h) + length rest = ap length parts
    ∙ length-append (header_bytes h) rest in
    trailing c (record {
      header = h;
      more = rest;
      fits = is.0;
      bare = bare;
      parts = parts;
      some = some;
      place = place ∙ omega arith;
    })

pub fault_within : (form : HeaderForm) (bytes : List ℕ) (left : ℕ) (code : ReadCode)
    → FormFault form bytes left code → left ≤ length bytes
fault_within form bytes left code (ends c l k) = omega arith
fault_within form bytes left code (stops k) =
    let p = k.place in let l = ap length k.parts ∙ length-append k.front (k.unit ++ k.rest) in omega arith
fault_within form bytes left code (trails c h rest k bare some l) =
    let n = ap length k.parts ∙ length-append (fields_bytes k.fields) rest in omega arith

-- memory is never short

abbrev no_code : Option ReadCode
no_code = None

abbrev some_code : ReadCode → Option ReadCode
some_code c = Some c

if_none : (b : Bool) (c d : ReadCode) → (if b then no_code else some_code c) ≡ some_code d → c ≡ d
if_none true c d e = absurd cc
if_none false c d e = cc

if_some : (b : Bool) (c d : ReadCode) → (if b then some_code c else no_code) ≡ some_code d → c ≡ d
if_some true c d e = cc
if_some false c d e = absurd cc

never_memory : (k : UnitKind) (unit : List ℕ) → unit_fault k unit ≡ some_code codes.NoMemory → ⊥
never_memory AnyUnit unit e = cc
never_memory (StateUnit count) unit e =
    (let h : codes.BadEnum ≡ codes.NoMemory =
    if_none (nat_lt (from_be_bytes w32 unit) count) codes.BadEnum codes.NoMemory e in cc)
never_memory LengthUnit unit e =
    (let h : codes.TooMany ≡ codes.NoMemory =
    if_some (nat_lt most_auth_bytes (from_be_bytes w32 unit)) codes.TooMany codes.NoMemory e in cc)
never_memory (PaddedUnit k) unit e =
    (let h : codes.BadPad ≡ codes.NoMemory =
    if_none (are_zeros (drop k unit)) codes.BadPad codes.NoMemory e in cc)

not_short : codes.Short ≡ codes.NoMemory → ⊥
not_short e = cc

not_trailing : codes.Trailing ≡ codes.NoMemory → ⊥
not_trailing e = cc

pub no_memory : (form : HeaderForm) (bytes : List ℕ) (left : ℕ) (code : ReadCode)
    → FormFault form bytes left code → code ≡ codes.NoMemory → ⊥
no_memory form bytes left code (ends c l k) e = not_short (sym c ∙ e)
no_memory form bytes left code (stops k) e =
    let why = k.cause k.begun.rest k.begun.fields k.begun.header k.begun.path k.begun.parts in
    never_memory why.1 k.unit (why.5 ∙ ap some_code e)
no_memory form bytes left code (trails c h rest k bare some l) e = not_trailing (sym c ∙ e)

-- ---- messages

pub message_is : (bytes : List ℕ) (h : Header) (body : List ℕ) → Reads header_form bytes (Whole h) body
    → (IsBare h → body ≡ []) → IsMessage bytes h body
message_is bytes h body m whole =
    let is = path_header m.fields h m.path in
    record { fits = is.0; parts = m.parts ∙ ap (λ t. fields_bytes t ++ body) (sym is.1); whole = whole }

pub one_message_lem : (bytes : List ℕ) (g h : Header) (a b : List ℕ) → IsMessage bytes g a
    → IsMessage bytes h b → (g ≡ h) × (a ≡ b)
one_message_lem bytes g h a b x y = one_path header_form (header_fields g) (header_fields h) g h a b
    (header_path g x.fits) (header_path h y.fits) (sym x.parts ∙ y.parts)

pub one_answer_lem : (bytes : List ℕ) (h : Header) (body : List ℕ) (at : ℕ) (code : ReadCode)
    → IsMessage bytes h body → IsHeaderFault bytes at code → ⊥
one_answer_lem bytes h body at code m (trailing c k) =
    let one = one_path header_form (header_fields h) (header_fields k.header) h k.header body k.more
    (header_path h m.fits) (header_path k.header k.fits) (sym m.parts ∙ k.parts) in
    let none : k.more ≡ [] = sym one.1 ∙ m.whole (subst (λ t. IsBare t) (sym one.0) k.bare) in
    let l : length k.more ≡ 0 = ap length none in
    let some = k.some in
    omega arith
one_answer_lem bytes h body at code m (bad_unit k) = k.none h body m.fits m.parts
one_answer_lem bytes h body at code m (cut_short c k) = k.none h body m.fits m.parts

-- ---- parts of replies

pub some_left : (xs : List ℕ) (b : Bool) → b ≡ (length xs == 0) → b ≡ false → 0 < length xs
some_left [] b e h = absurd cc
some_left (x ∷ xs) b e h = omega arith

-- of a state that ends its header
pub accept_ends : (xid : ℕ) (verf : Auth) (n left : ℕ) (bytes : List ℕ) (code : ReadCode) → (n ≡ 0 → ⊥)
    → (n ≡ 2 → ⊥) → ((h : Header) → IsBare h → FormFault (Whole h) bytes left code) →
    FormFault (accept_form xid verf n) bytes left code
accept_ends xid verf zero left bytes code a b f = absurd (a refl)
accept_ends xid verf (suc zero) left bytes code a b f = f (Accepted xid verf ProgUnavail) tt
accept_ends xid verf (suc (suc zero)) left bytes code a b f = absurd (b refl)
accept_ends xid verf (suc (suc (suc zero))) left bytes code a b f = f (Accepted xid verf ProcUnavail) tt
accept_ends xid verf (suc (suc (suc (suc zero)))) left bytes code a b f = f (Accepted xid verf GarbageArgs) tt
accept_ends xid verf (suc (suc (suc (suc (suc n))))) left bytes code a b f =
    f (Accepted xid verf SystemErr) tt

abbrev pub by_reason : ℕ → ℕ → HeaderForm
by_reason xid stat = Whole (Denied xid (AuthError stat))

pub reject_other : (xid n : ℕ) → (n ≡ 0 → ⊥) → reject_form xid n ≡ number_form (λ stat. by_reason xid stat)
reject_other xid zero h = absurd (h refl)
reject_other xid (suc n) h = refl

pub reply_other : (xid n : ℕ) → (n ≡ 0 → ⊥) → reply_form xid n ≡ denied_form xid
reply_other xid zero h = absurd (h refl)
reply_other xid (suc n) h = refl

pub kind_other : (xid n : ℕ) → (n ≡ 0 → ⊥) → kind_form xid n ≡ state_form 1 (λ n. reply_form xid n)
kind_other xid zero h = absurd (h refl)
kind_other xid (suc n) h = refl

-- the form that a number chooses
pub fault_at : (f : ℕ → HeaderForm) (n m left : ℕ) (bytes : List ℕ) (code : ReadCode) → n ≡ m
    → FormFault (f m) bytes left code → FormFault (f n) bytes left code
fault_at f n m left bytes code e h = subst (λ t. FormFault (f t) bytes left code) (sym e) h

pub fault_of_form : (a b : HeaderForm) (left : ℕ) (bytes : List ℕ) (code : ReadCode) → a ≡ b
    → FormFault b bytes left code → FormFault a bytes left code
fault_of_form a b left bytes code e h = subst (λ t. FormFault t bytes left code) (sym e) h

pub reads_of_form : (a b on : HeaderForm) (bytes rest : List ℕ) → a ≡ b → Reads b bytes on rest
    → Reads a bytes on rest
reads_of_form a b on bytes rest e h = subst (λ t. Reads t bytes on rest) (sym e) h

-- ---- where no body stands

bare_accept : (xid : ℕ) (verf : Auth) (s : AcceptStat) → IsBare (Accepted xid verf (accept_of s))
    → results_of s ≡ []
bare_accept xid verf (accepts.Success body) b = absurd b
bare_accept xid verf accepts.ProgUnavail b = refl
bare_accept xid verf (accepts.ProgMismatch low high) b = refl
bare_accept xid verf accepts.ProcUnavail b = refl
bare_accept xid verf accepts.GarbageArgs b = refl
bare_accept xid verf accepts.SystemErr b = refl

pub bare_body : (xid : ℕ) (kind : MessageKind) → IsBare (header_of_kind xid kind) → body_of_kind kind ≡ []
bare_body xid (kinds.Call call) b = absurd b
bare_body xid (kinds.Reply (replies.Accepted verf stat)) b = bare_accept xid (auth_of verf) stat b
bare_body xid (kinds.Reply (replies.Denied stat)) b = refl
