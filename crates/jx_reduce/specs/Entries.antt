-- Entries: expectations that may depend on the innermost container.
use Rattle.std.specs.Prelude.{ℕ}
use Rattle.jx_reduce.specs.declared.table.holder.Holder.{Holder}
use Rattle.jx_reduce.specs.declared.table.holder.Holder.TheVariants.{Object}
use Rattle.jx_reduce.specs.declared.table.expect.Expect.{Expect}
use Rattle.jx_reduce.specs.declared.table.expect.Expect.TheVariants.{Value, ArrayFirst, ObjectFirst, Name, Colon, After}
use Rattle.jx_lex.specs.declared.alphabet.mark.MarkKind.{MarkKind}
use Rattle.jx_lex.specs.declared.alphabet.mark.MarkKind.TheVariants.{OpenArray, OpenObject, Comma, String, Colon as ColonMark}
use Rattle.jx_reduce.specs.declared.forms.entry.Entry.{Entry}
use Rattle.jx_reduce.specs.declared.forms.entry.Entry.TheVariants.{ValueOrName, AfterOrColon, Value as AnyValue, ArrayFirst as AnyArrayFirst, ObjectFirst as AnyObjectFirst, Name as AnyName, Colon as AnyColon, After as AnyAfter}

-- the expectation that an entry is, under this innermost container
abbrev pub value_or_name : Holder → Expect
value_or_name Object = Name
value_or_name _ = Value

abbrev pub after_or_colon : Holder → Expect
after_or_colon Object = Colon
after_or_colon _ = After

abbrev pub expect_at : Entry → Holder → Expect
expect_at AnyValue _ = Value
expect_at AnyArrayFirst _ = ArrayFirst
expect_at AnyObjectFirst _ = ObjectFirst
expect_at AnyName _ = Name
expect_at AnyColon _ = Colon
expect_at AnyAfter _ = After
expect_at ValueOrName h = value_or_name h
expect_at AfterOrColon h = after_or_colon h

-- the entry that a token leads to where it is no fault
abbrev pub string_leads : Entry → Entry
string_leads AnyObjectFirst = AnyColon
string_leads AnyName = AnyColon
string_leads ValueOrName = AfterOrColon
string_leads _ = AnyAfter

abbrev pub leads_to : MarkKind → Entry → Entry
leads_to OpenArray _ = AnyArrayFirst
leads_to OpenObject _ = AnyObjectFirst
leads_to ColonMark _ = AnyValue
leads_to Comma _ = ValueOrName
leads_to String x = string_leads x
leads_to _ _ = AnyAfter

-- its place among all entries, counted from 0
abbrev pub place : Entry → ℕ
place AnyValue = 0
place AnyArrayFirst = 1
place AnyObjectFirst = 2
place AnyName = 3
place AnyColon = 4
place AnyAfter = 5
place ValueOrName = 6
place AfterOrColon = 7
