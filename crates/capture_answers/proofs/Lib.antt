mod LineLemmas
mod PlainLemmas
mod SpanLemmas
